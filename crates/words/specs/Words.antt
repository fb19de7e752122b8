-- Words of 32 bits: their bytes, four of them at a time, and the AES round on four.
use Rattle.std.specs.Prelude.{ℕ, zero, suc, ◌+◌, ◌*◌, ◌/◌, ◌%◌, List, [], ◌∷◌, ◌++◌, get_or}
use Rattle.std.specs.Int.Bits.{bit_xor}
use Rattle.aes.specs.Round.{four, aes_round}

-- a word of its bytes, byte 0 the least significant
unfoldable pub from_bytes : ℕ → ℕ → ℕ → ℕ → ℕ
from_bytes b0 b1 b2 b3 = b0 + 256 * b1 + 65536 * b2 + 16777216 * b3

-- word j of a list of bytes
unfoldable pub word_at : List ℕ → ℕ → ℕ
word_at b j = from_bytes (get_or b (4 * j) 0) (get_or b (4 * j + 1) 0) (get_or b (4 * j + 2) 0) (get_or b (4 * j + 3) 0)

-- the first n words of a list of bytes
unfoldable pub words_of : ℕ → List ℕ → List ℕ
words_of zero b = []
words_of (suc n) b = words_of n b ++ (word_at b n ∷ [])

-- four words of a list, from place i
unfoldable pub four_at : List ℕ → ℕ → List ℕ
four_at w i = get_or w i 0 ∷ get_or w (i + 1) 0 ∷ get_or w (i + 2) 0 ∷ get_or w (i + 3) 0 ∷ []

unfoldable pub xor4 : List ℕ → List ℕ → List ℕ
xor4 x y = four (λ j. bit_xor (get_or x j 0) (get_or y j 0))

-- Word j is column j, and row r is byte 3 - r of the word: the printed starting values are met only so (docs/DECISIONS.md).
unfoldable pub column_of : ℕ → List ℕ
column_of w = w / 16777216 % 256 ∷ w / 65536 % 256 ∷ w / 256 % 256 ∷ w % 256 ∷ []

unfoldable pub from_column : List ℕ → ℕ
from_column c = from_bytes (get_or c 3 0) (get_or c 2 0) (get_or c 1 0) (get_or c 0 0)

abbrev pub columns_of : List ℕ → List (List ℕ)
columns_of x = four (λ j. column_of (get_or x j 0))

abbrev pub from_columns : List (List ℕ) → List ℕ
from_columns s = four (λ j. from_column (get_or s j []))

-- the AES round on four words, under a subkey of four words
unfoldable pub round_of : List ℕ → List ℕ → List ℕ
round_of x key = from_columns (aes_round (columns_of x) (columns_of key))

abbrev pub zero4 : List ℕ
zero4 = 0 ∷ 0 ∷ 0 ∷ 0 ∷ []

-- f at 0, at 1, .., n of them, one after the other
unfoldable pub times : {A : Type 0} → ℕ → (ℕ → A → A) → A → A
times zero f s = s
times (suc n) f s = f n (times n f s)
