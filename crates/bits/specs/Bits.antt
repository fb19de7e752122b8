-- Bits of a byte, most significant first (document 02, Five): the last bits of a message, the 1 bit behind them, and a digest's broken last byte.
use Rattle.std.specs.Prelude.{Bool, ◌&&◌, List, ℕ, ◌+◌, ◌-◌, ◌/◌, ◌%◌, ◌^◌, eqb, leb, get_or, take, set}
use Rattle.bits.specs.declared.LastBits.{LastBits}

-- the weight of a byte's bit number k, from 1 on: 128, 64, .. 1
abbrev pub weight : ℕ → ℕ
weight k = 2 ^ (8 - k)

-- the first k bits of a byte; the others become zero
unfoldable pub high_bits : ℕ → ℕ → ℕ
high_bits k x = x - x % weight k

-- no last bits: a message of whole bytes
unfoldable pub no_bits : LastBits
no_bits = record { byte = 0; count = 0 }

-- "0 to 7 last bits, most significant first in one byte", and the unused ones zero
unfoldable pub last_fits : LastBits → Bool
last_fits b = leb b.count 7 && eqb (b.byte % weight b.count) 0

-- "The 1 bit follows directly": it is the bit behind the last one.
unfoldable pub marked : LastBits → ℕ
marked b = b.byte + weight (b.count + 1)

-- "01's m/8 is rounded up."
abbrev pub digest_bytes : ℕ → ℕ
digest_bytes m = (m + 7) / 8

-- the byte that m ends in keeps its first bits: those of the digest
unfoldable pub kept : ℕ → List ℕ → List ℕ
kept m xs = set xs (m / 8) (high_bits (m % 8) (get_or xs (m / 8) 0))

-- The first m bits. "In a digest of a broken byte the unused low bits are zero." Where m is a multiple of 8, the byte at m / 8 is not among them.
unfoldable pub first_bits : ℕ → List ℕ → List ℕ
first_bits m xs = take (digest_bytes m) (kept m xs)
