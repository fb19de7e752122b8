-- The two families' numbers (document 01, "Two families").
use Rattle.std.specs.Prelude.{cond, ℕ, ◌+◌, ◌/◌, leb}
use Rattle.family.specs.declared.Family.{Family}
use Rattle.family.specs.declared.Family.TheVariants.{Small, Large}

-- the table's head: up to 256 bits, and up to 512 bits; 257 to 263 belong to the large family (document 02, Five)
abbrev pub digest_bits : Family → ℕ
digest_bits Small = 256
digest_bits Large = 512

-- the family of a digest length
unfoldable pub family_of : ℕ → Family
family_of m = cond (leb m (digest_bits Small)) Small Large

-- "family 0 or 1" (document 02, One)
abbrev pub family_number : Family → ℕ
family_number Small = 0
family_number Large = 1

-- document 01's table, line by line
abbrev pub block_bytes : Family → ℕ
block_bytes Small = 64
block_bytes Large = 128

abbrev pub chain_words : Family → ℕ
chain_words Small = 8
chain_words Large = 16

abbrev pub salt_bytes : Family → ℕ
salt_bytes Small = 32
salt_bytes Large = 64

abbrev pub rounds : Family → ℕ
rounds Small = 12
rounds Large = 14

abbrev pub expanded_words : Family → ℕ
expanded_words Small = 144
expanded_words Large = 448

abbrev pub length_bytes : Family → ℕ
length_bytes Small = 8
length_bytes Large = 16

-- the largest remainder padded in one block: "enough up to 431 bits of rest, a large one up to 879" (document 02, Five)
abbrev pub pad_limit : Family → ℕ
pad_limit Small = 431
pad_limit Large = 879

-- where the length stands in a last block: the bytes behind it are the length's and m's
abbrev pub length_place : Family → ℕ
length_place f = (pad_limit f + 1) / 8

-- The expansion's numbers: the words of a block, which is also the far distance and the length of a run; the linear words' near distance;
-- the salt's quads; the runs, nonlinear and linear in turn: "sixteen of each, four times", and "32 of each, six times, then a last nonlinear 32".
abbrev pub block_words : Family → ℕ
block_words Small = 16
block_words Large = 32

abbrev pub near_distance : Family → ℕ
near_distance Small = 3
near_distance Large = 7

abbrev pub salt_quads : Family → ℕ
salt_quads Small = 2
salt_quads Large = 4

abbrev pub runs : Family → ℕ
runs Small = 8
runs Large = 13
