use mathlib.Core.Path.{◌≡◌}
use Prim.Native.Nat.{◌-◌, ◌*◌, ◌/◌, ◌%◌, ◌≤◌, ◌<◌}
use lib.ListN.{length, drop}
use Rattle.compress.specs.declared.cipher.Halves.{Halves}
use Rattle.words.specs.Words.{times}
use Rattle.compress.specs.Cipher.{halves_round, inner_of}
use Rattle.compress.specs.Window.{small_words, made_of, halves_at}
use Rattle.compress.proofs.cipher.small.Given as goal

abbrev pub invariant-loop-i : goal.invariant-loop-i
invariant-loop-i l = (l.i ≤ 144) × (l.i % 12 ≡ 0) × (l.w.next ≡ l.i) × (made_of l.w.from ≡ small_words l.block l.fn.c l.salt) × (0 < l.i → length l.h ≡ 16) × (drop 8 l.h ≡ drop 8 l.initial.h)
    × (◌≡◌ {A = Halves} (halves_at l.i l.h) (times (l.i / 12) (halves_round (λ k. inner_of 2 (small_words l.block l.fn.c l.salt) (12 * k))) (halves_at 0 l.initial.h)))

abbrev pub decreases-loop-i : goal.decreases-loop-i
decreases-loop-i l = 144 - l.i
