-- The running state (document 01, "The running state"): its numbers, and when it is consistent.
use Rattle.std.specs.Prelude.{Bool, ◌&&◌, ℕ, ◌-◌, ◌/◌, ◌%◌, ◌^◌, eqb, leb, ltb, drop, replicate}
use Rattle.family.specs.declared.Family.{Family}
use Rattle.family.specs.declared.Family.TheVariants.{Small, Large}
use Rattle.family.specs.Family.{digest_bits, block_bytes, chain_words, salt_bytes}
use Rattle.state.specs.declared.State.{State}
use Rattle.state.specs.Bytes.{all_zero}

-- "the limit becomes 2^64 - 1 bits" (document 02, Five)
abbrev pub bit_limit : ℕ
bit_limit = 2 ^ 64 - 1

-- the most whole bytes of a message: 2^61 - 1
abbrev pub limit : ℕ
limit = bit_limit / 8

-- "m may be 1 to 512" (document 02, Five): not 0 and not over 512
unfoldable pub allowed : ℕ → Bool
allowed m = ltb 0 m && leb m (digest_bits Large)

-- up to 256 bits, and from 257 on
unfoldable pub belongs : Family → ℕ → Bool
belongs Small m = leb m (digest_bits Small)
belongs Large m = ltb (digest_bits Small) m

-- every place past rest in the held block, past the salt or past the chain is zero
unfoldable pub zero_past : State → ℕ → Bool
zero_past s rest =
    all_zero (drop rest s.held) && all_zero (drop (salt_bytes s.family) s.salt) && all_zero (drop (chain_words s.family) s.chain)

-- It is consistent if m is allowed and of that family, covered is at most 2^61 - 1, compressed = floor(covered / B), and every place past
-- covered mod B in the held block, past the salt or past the chain is zero.
unfoldable pub consistent_of : State → Bool
consistent_of s =
    allowed s.m && belongs s.family s.m && leb s.covered.0 limit
    && eqb s.compressed (s.covered.0 / block_bytes s.family) && zero_past s (s.covered.0 % block_bytes s.family)

-- the all-zero state of the small family
unfoldable pub zero_state : State
zero_state = record {
  family = Small;
  m = 0;
  salt = replicate 64 0;
  chain = replicate 16 0;
  covered = record { 0 = 0 };
  compressed = 0;
  held = replicate 128 0;
}
