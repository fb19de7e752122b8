-- Each entry of the S-box is the affine map of the field's inverse, and the inverse is one: two tests that antt computes over all 256 bytes.
use mathlib.Core.Path.{◌≡◌, refl}
use mathlib.Core.Bool.{Bool}
use Prim.Native.Nat.{ℕ, zero, suc, ◌<◌}
use lib.Dec.{eqb, eqb→eq}
use Rattle.aes.specs.Field.{mul, inverse}
use Rattle.sbox.specs.Sbox.{sbox_of, sbox_table, affine}
use Rattle.sbox.proofs.Table.{at, entry}

-- Document 01: the S-box is also the affine map of the field inverse, with 0 its own inverse.
pub sbox_affine : (x : ℕ) → x < 256 → sbox_of x ≡ affine (inverse x)
unfolding sbox_of sbox_table
sbox_affine x h = entry (λ k. affine (inverse k)) sbox_table tt x h

-- the product of k with its inverse, as it should be
one : ℕ → ℕ
one zero = 0
one (suc n) = 1

inverts : ℕ → ℕ → Bool
inverts k x = eqb (mul k (inverse k)) (one k)

-- x times its inverse is 1 for x not 0.
pub inverse_right : (x : ℕ) → suc x < 256 → mul (suc x) (inverse (suc x)) ≡ 1
unfolding sbox_table inverts one
inverse_right x h = eqb→eq (mul (suc x) (inverse (suc x))) 1 (at inverts sbox_table tt (suc x) h)

-- 0 is its own inverse.
pub inverse_zero : inverse 0 ≡ 0
inverse_zero = refl
