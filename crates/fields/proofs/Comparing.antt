-- Bytes compared one by one.
use mathlib.Core.Path.{◌≡◌, refl, ap, ap₂}
use mathlib.Core.Bool.{Bool, true, false, cond, false≢true}
use mathlib.Core.List.{List, [], ◌∷◌}
use Prim.Native.Nat.{ℕ}
use lib.Dec.{eqb}
use lib.ListN.{length}
use borrow.Author.Tests.{eq-eqb, eqb-true}
use Rattle.fields.specs.Fields.{same}

pub same_self : (xs : List ℕ) → same xs xs ≡ true
unfolding same
same_self [] = refl
same_self (x ∷ xs) = rw (eq-eqb x x refl) (same_self xs)

pub same_equal : (xs ys : List ℕ) → same xs ys ≡ true → xs ≡ ys
unfolding same
same_equal [] [] h = refl
same_equal [] (y ∷ ys) h = absurd (false≢true h)
same_equal (x ∷ xs) [] h = absurd (false≢true h)
same_equal (x ∷ xs) (y ∷ ys) h = by (eqb x y) (eqb-true x y) (same_equal xs ys) h
  where
    by : (t : Bool) → (t ≡ true → x ≡ y) → (same xs ys ≡ true → xs ≡ ys) → cond t (same xs ys) false ≡ true → ◌≡◌ {A = List ℕ} (x ∷ xs) (y ∷ ys)
    by true p q h = ap₂ (λ (a : ℕ) (l : List ℕ). a ∷ l) (p refl) (q h)
    by false p q h = absurd (false≢true h)

-- other lengths are other bytes
pub same_long : (xs ys : List ℕ) → (length xs ≡ length ys → ⊥) → false ≡ same xs ys
same_long xs ys h = by (same xs ys) (same_equal xs ys)
  where
    by : (t : Bool) → (t ≡ true → xs ≡ ys) → false ≡ t
    by false p = refl
    by true p = absurd (h (ap length (p refl)))
