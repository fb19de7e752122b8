-- Little-endian numbers and words in a list of bytes (documents 01 and 02: all numbers little-endian; a word's byte 0 is its least significant), and bytes
-- compared.
use Rattle.std.specs.Prelude.{Bool, true, false, cond, List, [], ◌∷◌, ◌++◌, ℕ, zero, suc, ◌+◌, ◌*◌, ◌/◌, ◌%◌, eqb, get_or}

-- k bytes of n, the low one first
unfoldable pub le : ℕ → ℕ → List ℕ
le zero n = []
le (suc k) n = n % 256 ∷ le k (n / 256)

-- the bytes of words, each word's byte 0 first
unfoldable pub bytes_of : List ℕ → List ℕ
bytes_of [] = []
bytes_of (w ∷ ws) = le 4 w ++ bytes_of ws

-- a section: its count, then its contents (documents 01 and 02: each after a 2-byte count)
abbrev pub section : ℕ → List ℕ → List ℕ
section count contents = le 2 count ++ contents

-- the number that k bytes from place i on are; a byte past the end counts as 0
unfoldable pub number_in : ℕ → List ℕ → ℕ → ℕ
number_in zero bytes i = 0
number_in (suc k) bytes i = get_or bytes i 0 + 256 * number_in k bytes (i + 1)

-- a number of 2 bytes at place i: a count, a register, a family
abbrev pub number_at : List ℕ → ℕ → ℕ
number_at bytes i = number_in 2 bytes i

-- as many bytes, and all of them the same
unfoldable pub same : List ℕ → List ℕ → Bool
same [] [] = true
same [] (y ∷ ys) = false
same (x ∷ xs) [] = false
same (x ∷ xs) (y ∷ ys) = cond (eqb x y) (same xs ys) false
