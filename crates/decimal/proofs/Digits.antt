-- The characters from a place on, and what they spell.
use mathlib.Core.Path.{◌≡◌}
use mathlib.Core.Bool.{true, false}
use mathlib.Core.List.{List, [], ◌∷◌}
use Prim.Native.Nat.{ℕ, ◌+◌, ◌*◌, ◌-◌, ◌≤◌, ◌<◌}
use native.Mathlib.Omega.{arith}
use native.Mathlib.Numerals.{add-one}
use lib.ListN.{length, drop, get_or, drop_of_length-le}
use lib.Seq.{drop-cons}
use Rattle.decimal.specs.Decimal.{is_digit, digits, spelled}

-- more digits make no number smaller
spelled_least : (n : ℕ) (text : List ℕ) → n ≤ spelled n text
unfolding spelled
spelled_least n [] = omega arith
spelled_least n (c ∷ cs) = omega (arith, spelled_least (10 * n + (c - 48)) cs)

module _ (text : List ℕ) (i : ℕ) where
  module _ (h : i < length text) where
    pub digit_passed : is_digit (get_or text i 0) ≡ true → digits (drop i text) ≡ digits (drop (i + 1) text)
    unfolding digits
    digit_passed d = rw (drop-cons text i 0 h, add-one i, d)

    pub digit_missed : is_digit (get_or text i 0) ≡ false → digits (drop i text) ≡ false
    unfolding digits
    digit_missed d = rw (drop-cons text i 0 h, d)

    pub spelled_on : (n : ℕ) → spelled n (drop i text) ≡ spelled (10 * n + (get_or text i 0 - 48)) (drop (i + 1) text)
    unfolding spelled
    spelled_on n = rw (drop-cons text i 0 h, add-one i)

    pub passed_least : (n : ℕ) → 10 * n + (get_or text i 0 - 48) ≤ spelled n (drop i text)
    passed_least n = rw (spelled_on n) (spelled_least (10 * n + (get_or text i 0 - 48)) (drop (i + 1) text))

  module _ (h : length text ≤ i) where
    pub digits_end : digits (drop i text) ≡ true
    unfolding digits
    digits_end = rw drop_of_length-le

    pub spelled_end : (n : ℕ) → spelled n (drop i text) ≡ n
    unfolding spelled
    spelled_end n = rw drop_of_length-le
