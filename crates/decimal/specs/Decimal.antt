-- Numbers spelled in decimal, the most significant digit first, up to 65535.
use Rattle.std.specs.Prelude.{Option, Some, None, Bool, true, not, cond, ◌&&◌, List, [], ◌∷◌, ℕ, ◌+◌, ◌*◌, ◌-◌, eqb, leb, ltb, length}

-- the characters 0 to 9
unfoldable pub is_digit : ℕ → Bool
is_digit c = leb 48 c && leb c 57

-- digits and nothing else
unfoldable pub digits : List ℕ → Bool
digits [] = true
digits (c ∷ cs) = is_digit c && digits cs

-- the number n with more digits behind its own
unfoldable pub spelled : ℕ → List ℕ → ℕ
spelled n [] = n
spelled n (c ∷ cs) = spelled (10 * n + (c - 48)) cs

-- no digit, another character, or a number over 65535 is none; zeros in front change nothing
unfoldable pub number_of : List ℕ → Option ℕ
number_of text = cond (eqb (length text) 0) None (cond (not (digits text)) None (cond (ltb 65535 (spelled 0 text)) None (Some (spelled 0 text))))
