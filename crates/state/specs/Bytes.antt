-- Bytes: zeros behind a list, and the test for zeros.
use Rattle.std.specs.Prelude.{Bool, true, ◌&&◌, List, [], ◌∷◌, ◌++◌, ℕ, ◌+◌, ◌-◌, eqb, length, replicate}

-- xs, and zeros up to k places
unfoldable pub fill : ℕ → List ℕ → List ℕ
fill k xs = xs ++ replicate (k - length xs) 0

unfoldable pub all_zero : List ℕ → Bool
all_zero [] = true
all_zero (x ∷ xs) = eqb x 0 && all_zero xs

-- the sum of a list: 0 where all of it is
unfoldable pub sum_of : List ℕ → ℕ
sum_of [] = 0
sum_of (x ∷ xs) = x + sum_of xs
