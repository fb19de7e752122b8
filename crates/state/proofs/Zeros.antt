-- Bytes gathered and words added up: zero where each of them is.
use mathlib.Core.Path.{◌≡◌, refl, ◌∙◌}
use mathlib.Core.Bool.{false, ◌&&◌}
use mathlib.Core.List.{List, [], ◌∷◌}
use Rattle.std.specs.List.{fold}
use Prim.Native.Nat.{ℕ, zero, suc, ◌+◌, ◌-◌, min}
use native.Mathlib.Omega.{arith}
use native.Mathlib.Nat.{zero-add}
use lib.Dec.{eqb}
use lib.Bits.{bit_or, or_add_and, and_le_r}
use lib.ListN.{length, take, drop, length-drop}
use lib.Seq.{take_all}
use Rattle.std.proofs.lemmas.List.{drop_min}
use borrow.Author.Tests.{ne_eqb}
use Rattle.state.specs.Bytes.{all_zero, sum_of}

-- what is behind a place, cut where the list ends
pub rest_is : (s : List ℕ) (at : ℕ) {n size : ℕ} → size ≡ length s → n ≡ min at size → take (size - n) (drop n s) ≡ drop at s
rest_is s at {n} {size} e m = take_all (size - n) (drop n s) (omega (arith, length-drop n s)) ∙ rw (m, e) (drop_min at s)

-- bytes gathered are zero where each of them is
pub or_zero : (a b : ℕ) → eqb (bit_or (suc a) b) 0 ≡ false
or_zero a b = ne_eqb (bit_or (suc a) b) 0 (λ e. omega (arith, or_add_and (suc a) b, and_le_r (suc a) b))

pub gathered : (any : ℕ) (s : List ℕ) → eqb (fold bit_or any s) 0 ≡ (eqb any 0 && all_zero s)
unfolding all_zero
gathered zero [] = refl
gathered (suc a) [] = rw (ne_eqb (suc a) 0 (λ e. omega arith))
gathered zero (x ∷ s) = gathered (bit_or zero x) s
gathered (suc a) (x ∷ s) = gathered (bit_or (suc a) x) s ∙ rw (or_zero a x, ne_eqb (suc a) 0 (λ e. omega arith))

-- a sum is 0 where all of it is
pub sum_zero : (xs : List ℕ) → eqb (sum_of xs) 0 ≡ all_zero xs
unfolding sum_of all_zero
sum_zero [] = refl
sum_zero (zero ∷ xs) = rw zero-add (sum_zero xs)
sum_zero (suc x ∷ xs) = rw (ne_eqb (suc x + sum_of xs) 0 (λ e. omega arith), ne_eqb (suc x) 0 (λ e. omega arith))
