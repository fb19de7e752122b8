use mathlib.Core.Path.{◌≡◌}
use mathlib.Core.List.{List}
use Prim.Native.Nat.{ℕ, ◌+◌, ◌*◌}
use Rattle.words.specs.Words.{times, four_at, round_of}
use Rattle.compress.specs.Window.{made_of}
use Rattle.compress.proofs.cipher.inner_small.Given as goal

abbrev pub invariant-loop-j : goal.invariant-loop-j
invariant-loop-j l =
    let w = l.fn.w in
    (l.w.next ≡ w.next + 4 + 4 * l._j) × (l.w.from ≡ w.from)
    × (◌≡◌ {A = List ℕ} l.y (times l._j (λ j y. round_of y (four_at (made_of w.from) (w.next + 4 + 4 * j))) l.initial.y))
