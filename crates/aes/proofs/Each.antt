-- A function put at the first r places of a list, one store after the other.
use mathlib.Core.Path.{◌≡◌, refl, ap}
use mathlib.Core.List.{List, [], ◌∷◌, map}
use Prim.Native.Nat.{ℕ, zero, suc, ◌+◌, ◌<◌}
use native.Mathlib.Nat.{le_of_suc-le-suc, not-suc-le-zero}
use native.Mathlib.Numerals.{add-one}
use lib.ListN.{length, get_or, set}

module _ {A : Type 0} (d : A) (f : A → A) where
  abbrev pub each : ℕ → List A → List A
  each zero xs = xs
  each (suc r) [] = []
  each (suc r) (x ∷ xs) = f x ∷ each r xs

  more : (r : ℕ) (xs : List A) → r < length xs → set (each r xs) r (f (get_or (each r xs) r d)) ≡ each (suc r) xs
  more zero (x ∷ xs) h = refl
  more (suc r) (x ∷ xs) h = ap (λ (l : List A). f x ∷ l) (more r xs (le_of_suc-le-suc h))
  more r [] h = absurd (not-suc-le-zero h)

  pub each_more : (r : ℕ) (xs : List A) → r < length xs → set (each r xs) r (f (get_or (each r xs) r d)) ≡ each (r + 1) xs
  each_more r xs h = rw add-one (more r xs h)

  -- at every place
  pub each_all : (xs : List A) → each (length xs) xs ≡ map f xs
  each_all [] = refl
  each_all (x ∷ xs) = ap (λ (l : List A). f x ∷ l) (each_all xs)
