-- Document 01's bad builds: for each of the five, an answer that the contracts require and that the build does not give.
use Rattle.std.specs.Prelude.{◌≡◌, refl, List, [], ◌∷◌, ℕ, ◌+◌, length, get_or, replicate}
use Rattle.std.proofs.Common.{ap, arith}
use Rattle.sbox.specs.Sbox.{sbox_of, sbox_table}
use Rattle.aes.specs.Round.{sub_bytes, shift_rows, mix_columns, add_round_key, aes_round}
use Rattle.family.specs.declared.Family.TheVariants.{Small}
use Rattle.counter.specs.Counter.{counter_of}
use Rattle.words.specs.Words.{times, four_at, xor4, column_of, from_column, from_bytes, words_of, word_at, round_of}
use Rattle.compress.specs.Expansion.{back, places, enters, taps_of, last_of, counts_of, group_of, nonlinear_run, linear_of, linear_run, run_of, expand_of}
use Rattle.compress.specs.Cipher.{halves_round, inner_of, small_cipher}
use Rattle.compress.specs.Compression.{small_output, compress_of}
use Rattle.startup.specs.Startup.{master_of, start_of}
use Rattle.std.specs.Prelude.{Ok}
use Rattle.family.specs.Family.{family_of}
use Rattle.bits.specs.Bits.{high_bits, no_bits, last_fits, marked, kept, first_bits}
use Rattle.bits.specs.Message.{Message, whole}
use Rattle.state.specs.declared.State.{State}
use Rattle.fields.specs.Fields.{le, bytes_of}
use Rattle.state.specs.Bytes.{fill, all_zero}
use Rattle.finishing.specs.Blocks.{whole_blocks, last_block, last_blocks, blocks_of, chain_over, digest_of}
use Rattle.state.specs.State.{allowed, belongs, zero_past, consistent_of}
use Rattle.digest.specs.Running.{state_of, absorbed}
use Rattle.finishing.specs.Finish.{held_of}
use Rattle.digest.specs.Calls.{salt_fits, begin_answer, begin_of, add_answer, add_of, one_shot_answer, one_shot_of, one_shot_buffer}
use Rattle.reports.specs.Report.{report_blocks}
use Rattle.sequences.specs.Sequences.{add, after, after_call}

-- One that refuses everything: begin of 256 bits with an empty salt is accepted.
pub begins : begin_answer 256 [] ≡ Ok tt
unfolding begin_answer allowed salt_fits family_of
begins = refl

-- One with a constant digest: the digests of no byte and of "A", as source appendix A.2 prints them, begin with different bytes.
abbrev first_byte : List ℕ → ℕ
first_byte xs = get_or (one_shot_buffer 256 [] (whole xs) (replicate 32 0)) 0 0

abbrev first_bytes : ℕ × ℕ
first_bytes = (first_byte [], first_byte (65 ∷ []))

pub digests : first_bytes ≡ (0x4A, 0x17)
unfolding one_shot_buffer one_shot_answer allowed salt_fits family_of last_fits no_bits marked high_bits kept first_bits digest_of chain_over blocks_of whole_blocks last_blocks last_block fill le bytes_of start_of master_of compress_of small_output small_cipher halves_round inner_of expand_of run_of nonlinear_run linear_run group_of linear_of taps_of last_of counts_of enters places back times four_at xor4 round_of column_of from_column from_bytes words_of word_at aes_round sub_bytes shift_rows mix_columns add_round_key sbox_of sbox_table counter_of
digests = refl

-- One whose add returns its input state: an accepted add of at least a byte gives another state.
pub add_moves : (s : State) (xs : List ℕ) → add_answer s xs ≡ Ok tt → (add_of s xs).state ≡ s → length xs ≡ 0
unfolding add_of absorbed
add_moves s xs a e =
    let c : s.covered.0 + length xs ≡ s.covered.0 = rw a at (ap (λ (t : State). t.covered.0) e) in
    omega arith

-- One that absorbs the first add and merely counts the later ones: after two accepted adds of a byte each, the second byte is held too.
abbrev second_held : List ℕ → List ℕ → ℕ
second_held xs ys = get_or (after (begin_of 256 []).state (add xs ∷ add ys ∷ [])).held 1 0

pub both_held : second_held (1 ∷ []) (2 ∷ []) ≡ 2
unfolding after after_call begin_of begin_answer add_of add_answer absorbed held_of state_of consistent_of zero_past all_zero belongs allowed salt_fits family_of chain_over whole_blocks fill start_of master_of compress_of small_output small_cipher halves_round inner_of expand_of run_of nonlinear_run linear_run group_of linear_of taps_of last_of counts_of enters places back times four_at xor4 round_of column_of from_column from_bytes words_of word_at aes_round sub_bytes shift_rows mix_columns add_round_key sbox_of sbox_table counter_of
both_held = refl

-- One that invents its block count: the count of an accepted one-shot is the length of the definition's list: 1 for no byte, 2 for 54.
pub count_is : (m : ℕ) (salt : List ℕ) (x : Message) (out : List ℕ) → one_shot_answer m salt x out ≡ Ok tt
    → report_blocks (one_shot_of m salt x out) ≡ length (blocks_of (family_of m) m x)
unfolding one_shot_of
count_is m salt x out a = rw a

abbrev block_counts : ℕ × ℕ
block_counts = (length (blocks_of Small 256 (whole [])), length (blocks_of Small 256 (whole (replicate 54 0))))

pub counts : block_counts ≡ (1, 2)
unfolding blocks_of whole_blocks last_blocks no_bits
counts = refl
