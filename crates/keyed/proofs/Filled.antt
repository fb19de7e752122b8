-- Lists filled with zeros: twice, and behind what was written over zeros.
use mathlib.Core.Path.{◌≡◌}
use mathlib.Core.List.{List, ◌++◌, append_assoc, append-nil}
use Prim.Native.Nat.{ℕ, zero, suc, ◌+◌, ◌-◌, ◌≤◌}
use native.Mathlib.Omega.{arith}
use lib.ListN.{length, drop, replicate, length-append, length-replicate, replicate-append-replicate}
use Rattle.state.specs.Bytes.{fill}

pub fill_fill : (k j : ℕ) (xs : List ℕ) → length xs ≤ j → j ≤ k → fill k (fill j xs) ≡ fill k xs
unfolding fill
fill_fill k j xs h g =
    let l : length (xs ++ replicate (j - length xs) 0) ≡ j = simp (length-append, length-replicate) (omega arith) in
    let e : j - length xs + (k - j) ≡ k - length xs = omega arith in
    rw (l, append_assoc, replicate-append-replicate, e)

drop_zeros : (n k : ℕ) → drop {A = ℕ} n (replicate k 0) ≡ replicate (k - n) 0
drop_zeros zero k =
    let e : k - 0 ≡ k = omega arith in
    rw e
drop_zeros (suc n) zero =
    let e : 0 - suc n ≡ 0 = omega arith in
    rw e
drop_zeros (suc n) (suc k) =
    let e : suc k - suc n ≡ k - n = omega arith in
    rw e (drop_zeros n k)

-- what was written to the front of zeros
pub front_filled : (k : ℕ) (xs : List ℕ) → xs ++ drop (length xs) (replicate k 0) ≡ fill k xs
unfolding fill
front_filled k xs = rw (drop_zeros (length xs) k)

-- nothing is missing
pub fill_none : (k : ℕ) (xs : List ℕ) → length xs ≡ k → fill k xs ≡ xs
unfolding fill
fill_none k xs e =
    let z : k - length xs ≡ 0 = omega arith in
    rw z (append-nil xs)
