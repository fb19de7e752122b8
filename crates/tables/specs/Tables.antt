-- The round over tables (document 02, Seven): four tables of 256 words, one per row, each entry holding the S-box value already multiplied for its column.
use Rattle.std.specs.Prelude.{List, [], ◌∷◌, ℕ, zero, suc, ◌+◌, ◌/◌, ◌%◌, get_or}
use Rattle.std.specs.Int.Bits.{bit_xor}
use Rattle.sbox.specs.Sbox.{sbox_of}
use Rattle.aes.specs.Field.{mul}
use Rattle.aes.specs.Round.{four, coefficient}
use Rattle.words.specs.Words.{from_column}

-- The entry of row r's table for a byte: its S-box value times column r of the matrix. That column of four bytes is a word as every other is.
unfoldable pub entry_of : ℕ → ℕ → ℕ
entry_of r x =
    from_column
    (mul (coefficient 0 r) (sbox_of x)
    ∷ mul (coefficient 1 r) (sbox_of x)
    ∷ mul (coefficient 2 r) (sbox_of x)
    ∷ mul (coefficient 3 r) (sbox_of x)
    ∷ [])

-- f at k, at k + 1, .., n of them
abbrev pub listed : (ℕ → ℕ) → ℕ → ℕ → List ℕ
listed f k zero = []
listed f k (suc n) = f k ∷ listed f (suc k) n

-- The four tables, one behind the other: row r's begins at 256 * r.
unfoldable pub round_tables : List ℕ
round_tables = listed (λ k. entry_of (k / 256) (k % 256)) 0 1024

-- A column of the next state over lent tables: the entry for each row's byte, xored, and the subkey's word. a, b, c and d are the words that the bytes in
-- rows 0, 1, 2 and 3 come from; row r is byte 3 - r of its word.
unfoldable pub column_by : List ℕ → ℕ → ℕ → ℕ → ℕ → ℕ → ℕ
column_by t a b c d key =
    let first = bit_xor (get_or t (a / 16777216 % 256) 0) (get_or t (256 + b / 65536 % 256) 0) in
    bit_xor (bit_xor (bit_xor first (get_or t (512 + c / 256 % 256) 0)) (get_or t (768 + d % 256) 0)) key

-- The round over lent tables: the byte in row r comes from r columns on, as ShiftRows has it.
unfoldable pub round_by : List ℕ → List ℕ → List ℕ → List ℕ
round_by t x key =
    let at : ℕ → ℕ = λ c. get_or x (c % 4) 0 in
    four (λ c. column_by t (at c) (at (c + 1)) (at (c + 2)) (at (c + 3)) (get_or key c 0))
