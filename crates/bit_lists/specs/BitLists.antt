-- Messages, padding and digests as lists of bits, most significant first in each byte: source 003's own terms (section 3.2).
use Rattle.std.specs.Prelude.{◌≡◌, List, [], ◌∷◌, ◌++◌, ℕ, ◌+◌, ◌*◌, ◌/◌, ◌%◌, ◌<◌, length, take, replicate}
use Rattle.family.specs.declared.Family.{Family}
use Rattle.family.specs.Family.{block_bytes, length_bytes}
use Rattle.fields.specs.Fields.{le}
use Rattle.bits.specs.Message.{Message, bit_length}
use Rattle.finishing.specs.Blocks.{blocks_of}

-- the eight bits of a byte
unfoldable pub bits_of_byte : ℕ → List ℕ
bits_of_byte x =
    x / 128 % 2 ∷ x / 64 % 2 ∷ x / 32 % 2 ∷ x / 16 % 2 ∷ x / 8 % 2 ∷ x / 4 % 2 ∷ x / 2 % 2 ∷ x % 2 ∷ []

unfoldable pub bits_of : List ℕ → List ℕ
bits_of [] = []
bits_of (x ∷ xs) = bits_of_byte x ++ bits_of xs

-- a message's bits: those of its whole bytes, then its last bits
unfoldable pub message_bits : Message → List ℕ
message_bits x = bits_of x.bytes ++ take x.last.count (bits_of_byte x.last.byte)

-- the blocks of a list of (counter, block), one behind the other
unfoldable pub blocks_joined : List (ℕ × List ℕ) → List ℕ
blocks_joined [] = []
blocks_joined (b ∷ bs) = b.1 ++ blocks_joined bs

-- "divided into blocks of n bits each"
unfoldable pub Divided : ℕ → List (ℕ × List ℕ) → Type 0
Divided n [] = Unit
Divided n (b ∷ bs) = (8 * length b.1 ≡ n) × Divided n bs

-- "Pad with a single bit of 1. Pad with as many 0 bits as needed such that the length of the padded message (with the 1 bit and the 0's) is congruent modulo n
-- to (n - (t + r))", then the message length (t bits) and the digest length (r = 16 bits). As many as needed: fewer than n.
pub record Padded (f : Family) (m : ℕ) (x : Message) : Type 0 where
  pub zeros : ℕ
  pub fewest : zeros < 8 * block_bytes f
  pub place : (bit_length x + 1 + zeros + (8 * length_bytes f + 16)) % (8 * block_bytes f) ≡ 0
  pub is : bits_of (blocks_joined (blocks_of f m x)) ≡ message_bits x ++ (1 ∷ replicate zeros 0) ++ bits_of (le (length_bytes f) (bit_length x) ++ le 2 m)
