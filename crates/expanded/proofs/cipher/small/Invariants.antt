use mathlib.Core.Path.{◌≡◌}
use Prim.Native.Nat.{◌-◌, ◌*◌, ◌/◌, ◌%◌, ◌≤◌}
use Rattle.words.specs.Words.{times}
use Rattle.compress.specs.declared.cipher.Halves.{Halves}
use Rattle.compress.specs.Cipher.{halves_round, inner_of}
use Rattle.compress.specs.Window.{halves_at}
use Rattle.expanded.proofs.cipher.small.Given as goal

abbrev pub invariant-loop-i : goal.invariant-loop-i
invariant-loop-i g l = (l.i ≤ 144) × (l.i % 12 ≡ 0) × (◌≡◌ {A = Halves} (halves_at l.i l.h) (times (l.i / 12) (halves_round (λ k. inner_of 2 l.w (12 * k))) (halves_at 0 l.initial.h)))

abbrev pub decreases-loop-i : goal.decreases-loop-i
decreases-loop-i g l = 144 - l.i
