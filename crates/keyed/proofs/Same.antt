-- Bytes compared without a way out: what differs is gathered.
use mathlib.Core.Path.{◌≡◌, refl, ◌∙◌}
use mathlib.Core.Bool.{◌&&◌}
use mathlib.Core.List.{List, [], ◌∷◌}
use Rattle.std.specs.List.{fold, zip}
use Prim.Native.Nat.{ℕ, zero, suc}
use native.Mathlib.Omega.{arith}
use native.Mathlib.Decide.{ℕ_discrete}
use lib.Bits.{bit_or, bit_xor, xor_add_and, xor_self, and_le_l, and_le_r}
use lib.Dec.{eqb}
use lib.ListN.{length}
use borrow.Author.Tests.{eq-eqb, ne_eqb}
use Rattle.fields.specs.Fields.{same}
use Rattle.state.proofs.Zeros.{or_zero}

-- no bit differs only where the numbers are the same
xor_none : (x y : ℕ) → bit_xor x y ≡ 0 → x ≡ y
xor_none x y e = omega (arith, xor_add_and x y, and_le_l x y, and_le_r x y)

-- what is gathered of two bytes, behind what was gathered before
abbrev pub gather : ℕ → ℕ × ℕ → ℕ
gather any p = bit_or any (bit_xor p.0 p.1)

-- bytes compared by what is gathered of them
same_first : (x y : ℕ) (xs ys : List ℕ) → (eqb (bit_xor x y) 0 && same xs ys) ≡ same (x ∷ xs) (y ∷ ys)
unfolding same
same_first x y xs ys = elim (ℕ_discrete x y) [
  | yes e ↦ rw (e, xor_self y, eq-eqb y y refl)
  | no n ↦ rw (ne_eqb (bit_xor x y) 0 (λ e. n (xor_none x y e)), ne_eqb x y n)
]

pub alike_gathered : (any : ℕ) (xs ys : List ℕ) → length xs ≡ length ys → eqb (fold gather any (zip xs ys)) 0 ≡ (eqb any 0 && same xs ys)
unfolding same
alike_gathered zero [] [] e = refl
alike_gathered (suc a) [] [] e = rw (ne_eqb (suc a) 0 (λ e. omega arith))
alike_gathered any [] (y ∷ ys) e = absurd (omega arith)
alike_gathered any (x ∷ xs) [] e = absurd (omega arith)
alike_gathered zero (x ∷ xs) (y ∷ ys) e = alike_gathered (bit_or zero (bit_xor x y)) xs ys (omega arith) ∙ same_first x y xs ys
alike_gathered (suc a) (x ∷ xs) (y ∷ ys) e =
    alike_gathered (bit_or (suc a) (bit_xor x y)) xs ys (omega arith) ∙ rw (or_zero a (bit_xor x y), ne_eqb (suc a) 0 (λ e. omega arith))
