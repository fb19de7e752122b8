-- Document 01's rule before document 02's request Five: messages of whole bytes, and m a multiple of 8. The definitions stand as they stood.
use Rattle.std.specs.Prelude.{Bool, not, cond, ◌&&◌, List, [], ◌∷◌, ◌++◌, ℕ, ◌+◌, ◌-◌, ◌*◌, ◌/◌, ◌%◌, ◌^◌, eqb, leb, ltb, length, take, drop}
use Rattle.family.specs.declared.Family.{Family}
use Rattle.family.specs.declared.Family.TheVariants.{Small, Large}
use Rattle.family.specs.Family.{family_of, block_bytes, length_bytes}
use Rattle.answers.specs.declared.refusal.Refusal.TheVariants.{DigestLength, SaltSize, MessageLimit, StateInconsistent, BufferShort}
use Rattle.answers.specs.Refusal.{Answer}
use Rattle.answers.specs.Refusal.{judged, if_accepted}
use Rattle.answers.specs.Written.{written}
use Rattle.fields.specs.Fields.{le, bytes_of}
use Rattle.startup.specs.Startup.{start_of}
use Rattle.state.specs.declared.State.{State}
use Rattle.state.specs.Bytes.{fill}
use Rattle.state.specs.State.{belongs, zero_past, zero_state}
use Rattle.finishing.specs.Blocks.{whole_blocks, chain_over}
use Rattle.digest.specs.Running.{state_of, absorbed}
use Rattle.finishing.specs.Finish.{held_of}
use Rattle.digest.specs.Calls.{salt_fits}

-- "largest remainder padded in one block": 53 and 109 bytes
abbrev pub byte_limit : Family → ℕ
byte_limit Small = 53
byte_limit Large = 109

-- "covered is at most 2^61 - 1"
abbrev pub most_bytes : ℕ
most_bytes = 2 ^ 61 - 1

-- "m is 0, over 512 or not a multiple of 8" is refused
unfoldable pub byte_allowed : ℕ → Bool
byte_allowed m = ltb 0 m && leb m 512 && eqb (m % 8) 0

unfoldable pub byte_consistent : State → Bool
byte_consistent s =
    byte_allowed s.m && belongs s.family s.m && leb s.covered.0 most_bytes
    && eqb s.compressed (s.covered.0 / block_bytes s.family) && zero_past s (s.covered.0 % block_bytes s.family)

-- "One 1 bit (byte 80 hex), zeros, the message length in bits (8 or 16 bytes), m in 2 bytes."
unfoldable pub byte_last_block : Family → ℕ → ℕ → List ℕ → List ℕ
byte_last_block f m covered xs = fill (byte_limit f + 1) xs ++ (le (length_bytes f) (8 * covered) ++ le 2 m)

unfoldable pub byte_last_blocks : Family → ℕ → ℕ → List ℕ → List (ℕ × List ℕ)
byte_last_blocks f m covered rest =
    cond (leb (length rest) (byte_limit f))
    ((cond (eqb (length rest) 0) 0 (8 * covered), byte_last_block f m covered (rest ++ (0x80 ∷ []))) ∷ [])
    ((8 * covered, fill (block_bytes f) (rest ++ (0x80 ∷ []))) ∷ (0, byte_last_block f m covered []) ∷ [])

unfoldable pub byte_blocks : Family → ℕ → List ℕ → List (ℕ × List ℕ)
byte_blocks f m xs =
    let n = length xs / block_bytes f in
    whole_blocks n (block_bytes f) 0 xs ++ byte_last_blocks f m (length xs) (drop (n * block_bytes f) xs)

-- "The digest is the first m/8 bytes of the last chain."
unfoldable pub byte_digest : Family → ℕ → List ℕ → List ℕ → List ℕ
byte_digest f m salt xs = take (m / 8) (bytes_of (chain_over f salt (byte_blocks f m xs) (start_of f m)))

-- "Order: begin 1, 2; add 4, 3; finish 4, 5; one-shot 1, 2, 3, 5."
unfoldable pub byte_begin_answer : ℕ → List ℕ → Answer
byte_begin_answer m salt = judged ((not (byte_allowed m), DigestLength) ∷ (not (salt_fits (family_of m) salt), SaltSize) ∷ [])

unfoldable pub byte_begun : ℕ → List ℕ → State
byte_begun m salt = if_accepted (byte_begin_answer m salt) (state_of m salt []) zero_state

unfoldable pub byte_add_answer : State → List ℕ → Answer
byte_add_answer s xs = judged ((not (byte_consistent s), StateInconsistent) ∷ (ltb most_bytes (s.covered.0 + length xs), MessageLimit) ∷ [])

unfoldable pub byte_added : State → List ℕ → State
byte_added s xs = if_accepted (byte_add_answer s xs) (absorbed s xs) s

unfoldable pub byte_closing : State → List (ℕ × List ℕ)
byte_closing s = byte_last_blocks s.family s.m s.covered.0 (held_of s)

unfoldable pub byte_state_digest : State → List ℕ
byte_state_digest s = take (s.m / 8) (bytes_of (chain_over s.family s.salt (byte_closing s) s.chain))

unfoldable pub byte_finish_answer : State → List ℕ → Answer
byte_finish_answer s out = judged ((not (byte_consistent s), StateInconsistent) ∷ (ltb (length out) (s.m / 8), BufferShort) ∷ [])

unfoldable pub byte_finish_buffer : State → List ℕ → List ℕ
byte_finish_buffer s out = written (byte_finish_answer s out) (byte_state_digest s) out

unfoldable pub byte_one_shot_answer : ℕ → List ℕ → List ℕ → List ℕ → Answer
byte_one_shot_answer m salt xs out =
    judged (
    (not (byte_allowed m), DigestLength) ∷ (not (salt_fits (family_of m) salt), SaltSize) ∷ (ltb most_bytes (length xs), MessageLimit)
    ∷ (ltb (length out) (m / 8), BufferShort) ∷ []
    )

unfoldable pub byte_one_shot_buffer : ℕ → List ℕ → List ℕ → List ℕ → List ℕ
byte_one_shot_buffer m salt xs out = written (byte_one_shot_answer m salt xs out) (byte_digest (family_of m) m (fill 64 salt) xs) out
