-- What the calls that store bytes leave.
use mathlib.Core.Path.{◌≡◌, ap, ◌∙◌}
use mathlib.Core.List.{List, ◌++◌}
use Prim.Native.Nat.{ℕ, ◌+◌, ◌≤◌}
use native.Mathlib.Omega.{arith}
use lib.ListN.{length, take, drop, length-append}
use lib.Seq.{sets, sets-eq, take_at, length-take-le}

-- stored bytes, seen up to their end
pub sets_take : (l : List ℕ) (i : ℕ) (v : List ℕ) (e : ℕ) → i + length v ≡ e → e ≤ length l → take e (sets l i v) ≡ take i l ++ v
sets_take l i v e h b =
    ap (take e) (sets-eq v l i (omega arith))
    ∙ take_at (take i l ++ v) (drop (i + length v) l) e (length-append (take i l) v ∙ rw (length-take-le i l (omega arith)) h)
