-- Numbers and bytes as text, in ASCII.
use Rattle.std.specs.Prelude.{cond, List, [], ◌∷◌, ◌++◌, ℕ, zero, suc, ◌+◌, ◌/◌, ◌%◌, eqb, ltb}

-- What is added to a digit from ten on: 10 below the letter a, and 10 below A.
abbrev pub lower : ℕ
lower = 87

abbrev pub upper : ℕ
upper = 55

-- the code of a digit below 16: 0 to 9, then letters
unfoldable pub digit : ℕ → ℕ → ℕ
digit letter d = cond (ltb d 10) (48 + d) (letter + d)

-- the last k hex digits of n, the most significant first
unfoldable pub hex_in : ℕ → ℕ → ℕ → List ℕ
hex_in letter zero n = []
hex_in letter (suc k) n = hex_in letter k (n / 16) ++ (digit letter (n % 16) ∷ [])

-- two lower-case digits a byte
unfoldable pub hex_of : List ℕ → List ℕ
hex_of [] = []
hex_of (b ∷ bs) = hex_in lower 2 b ++ hex_of bs

-- the eight upper-case digits of a 32-bit word
unfoldable pub upper_of : ℕ → List ℕ
upper_of w = hex_in upper 8 w

-- the decimal digits of an n that has at most k of them; a zero in front is left out
unfoldable pub decimal_in : ℕ → ℕ → List ℕ
decimal_in zero n = []
decimal_in (suc k) n = cond (eqb (n / 10) 0) [] (decimal_in k (n / 10)) ++ ((48 + n % 10) ∷ [])

-- the decimal digits of n, of which there are at most n + 1
unfoldable pub decimal_of : ℕ → List ℕ
decimal_of n = decimal_in (suc n) n
