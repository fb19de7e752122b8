-- The AES round (FIPS 197, 5.1): a state is four columns of four bytes, column by column.
use Rattle.std.specs.Prelude.{ℕ, ◌+◌, ◌%◌, List, [], ◌∷◌, get_or}
use Rattle.std.specs.Int.Bits.{bit_xor}
use Rattle.aes.specs.Field.{mul}
use Rattle.sbox.specs.Sbox.{sbox_of}

abbrev pub four : {A : Type 0} → (ℕ → A) → List A
four f = f 0 ∷ f 1 ∷ f 2 ∷ f 3 ∷ []

-- the byte in row r of column c
abbrev pub cell : List (List ℕ) → ℕ → ℕ → ℕ
cell s r c = get_or (get_or s c []) r 0

-- the state whose byte in row r of column c is f r c
abbrev pub cells_of : (ℕ → ℕ → ℕ) → List (List ℕ)
cells_of f = four (λ c. four (λ r. f r c))

-- the sixteen bytes of a state, column by column
abbrev pub bytes_in : List (List ℕ) → List ℕ
bytes_in s =
    cell s 0 0 ∷ cell s 1 0 ∷ cell s 2 0 ∷ cell s 3 0 ∷ cell s 0 1 ∷ cell s 1 1 ∷ cell s 2 1 ∷ cell s 3 1
    ∷ cell s 0 2 ∷ cell s 1 2 ∷ cell s 2 2 ∷ cell s 3 2 ∷ cell s 0 3 ∷ cell s 1 3 ∷ cell s 2 3 ∷ cell s 3 3 ∷ []

-- FIPS 197, 5.1.1: each byte is replaced by its entry in the S-box.
unfoldable pub sub_bytes : List (List ℕ) → List (List ℕ)
sub_bytes s = cells_of (λ r c. sbox_of (cell s r c))

-- FIPS 197, 5.1.2: row r is shifted over r places.
unfoldable pub shift_rows : List (List ℕ) → List (List ℕ)
shift_rows s = cells_of (λ r c. cell s r ((c + r) % 4))

-- FIPS 197, 5.1.3: the matrix, row by row.
abbrev pub matrix : List (List ℕ)
matrix = (2 ∷ 3 ∷ 1 ∷ 1 ∷ []) ∷ (1 ∷ 2 ∷ 3 ∷ 1 ∷ []) ∷ (1 ∷ 1 ∷ 2 ∷ 3 ∷ []) ∷ (3 ∷ 1 ∷ 1 ∷ 2 ∷ []) ∷ []

-- the matrix's coefficient in row r and column k
abbrev pub coefficient : ℕ → ℕ → ℕ
coefficient r k = get_or (get_or matrix r []) k 0

-- row r of the matrix times the column a
abbrev pub mix_byte : ℕ → List ℕ → ℕ
mix_byte r a =
    let product : ℕ → ℕ = λ k. mul (coefficient r k) (get_or a k 0) in
    bit_xor (bit_xor (bit_xor (product 0) (product 1)) (product 2)) (product 3)

-- FIPS 197, 5.1.3: each column is multiplied by the matrix.
unfoldable pub mix_columns : List (List ℕ) → List (List ℕ)
mix_columns s = cells_of (λ r c. mix_byte r (get_or s c []))

-- FIPS 197, 5.1.4: the round key is added by xor.
unfoldable pub add_round_key : List (List ℕ) → List (List ℕ) → List (List ℕ)
add_round_key s k = cells_of (λ r c. bit_xor (cell s r c) (cell k r c))

-- Document 01: SubBytes, ShiftRows, MixColumns, then xor of the subkey.
unfoldable pub aes_round : List (List ℕ) → List (List ℕ) → List (List ℕ)
aes_round s k = add_round_key (mix_columns (shift_rows (sub_bytes s))) k
