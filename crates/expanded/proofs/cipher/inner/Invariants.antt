-- After j turns j subkeys are taken.
use mathlib.Core.Path.{◌≡◌}
use mathlib.Core.List.{List}
use Prim.Native.Nat.{ℕ, ◌+◌, ◌*◌}
use Rattle.words.specs.Words.{times, four_at, round_of}
use Rattle.expanded.proofs.cipher.inner.Given as goal

abbrev pub invariant-loop-j : goal.invariant-loop-j
invariant-loop-j g l = ◌≡◌ {A = List ℕ} l.y (times l.j (λ j y. round_of y (four_at l.w (l.i + 4 + 4 * j))) l.initial.y)
