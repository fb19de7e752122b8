-- The cases that document 01 marks P, in one table, proved of the definitions by computation.
use Rattle.std.specs.Prelude.{◌≡◌, refl, List, [], ◌∷◌, map, ℕ, replicate}
use Rattle.aes.specs.Field.{mul}
use Rattle.sbox.specs.Sbox.{sbox_of, sbox_table}
use Rattle.family.specs.declared.Family.{Family}
use Rattle.family.specs.declared.Family.TheVariants.{Small, Large}
use Rattle.bits.specs.Bits.{no_bits}
use Rattle.bits.specs.Message.{whole}
use Rattle.finishing.specs.Blocks.{whole_blocks, last_blocks, blocks_of}

-- the counters of a message of b bytes, all 0, with no last bits, and a digest of m bits
abbrev counters_of : Family → ℕ → ℕ → List ℕ
counters_of f m b = map (λ x. x.0) (blocks_of f m (whole (replicate b 0)))

-- a row: what the definitions give, and what document 01 says
abbrev Row : Type 0
Row = List ℕ × List ℕ

-- Small family counters for b = 0: 0. 53: 424. 54: 432, 0. 63: 504, 0. 64: 512, 0. 117: 512, 936. 118: 512, 944, 0.
-- Large family, b = 109: 872. 110: 880, 0. 127: 1016, 0. 128: 1024, 0. 237: 1024, 1896.
abbrev small : ℕ → List ℕ → Row
small b counters = (counters_of Small 256 b, counters)

abbrev large : ℕ → List ℕ → Row
large b counters = (counters_of Large 512 b, counters)

-- 65 times 8A = 9F (hex). Source section 2 prints 9D; its own modulus and FIPS 197 give 9F.
abbrev product : Row
product = (mul 0x65 0x8A ∷ [], 0x9F ∷ [])

-- S-box of 53 = ED.
abbrev entry : Row
entry = (sbox_of 0x53 ∷ [], 0xED ∷ [])

abbrev rows : List Row
rows =
    small 0 (0 ∷ []) ∷ small 53 (424 ∷ []) ∷ small 54 (432 ∷ 0 ∷ []) ∷ small 63 (504 ∷ 0 ∷ []) ∷ small 64 (512 ∷ 0 ∷ [])
    ∷ small 117 (512 ∷ 936 ∷ []) ∷ small 118 (512 ∷ 944 ∷ 0 ∷ [])
    ∷ large 109 (872 ∷ []) ∷ large 110 (880 ∷ 0 ∷ []) ∷ large 127 (1016 ∷ 0 ∷ []) ∷ large 128 (1024 ∷ 0 ∷ []) ∷ large 237 (1024 ∷ 1896 ∷ [])
    ∷ product ∷ entry ∷ []

-- What the definitions give is what document 01 says, in every row.
pub marked : map (λ row. row.0) rows ≡ map (λ row. row.1) rows
unfolding blocks_of whole_blocks last_blocks no_bits sbox_of sbox_table
marked = refl
