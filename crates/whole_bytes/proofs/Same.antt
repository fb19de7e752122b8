-- The rule for whole bytes is the rule of today at no last bits and m a multiple of 8: the test for one block, the list of (counter, block), the digest, and
-- each call's answer, values and buffer.
use mathlib.Core.Path.{◌≡◌, refl, ◌∙◌}
use mathlib.Core.Bool.{Bool, true, false, ◌&&◌}
use mathlib.Core.List.{List}
use Prim.Native.Nat.{ℕ, zero, suc, ◌+◌, ◌*◌, ◌/◌, ◌%◌, ◌≤◌}
use native.Mathlib.Omega.{arith}
use native.Mathlib.Decide.{dec_lt}
use lib.Dec.{eqb, leb, ltb}
use lib.ListN.{length}
use borrow.Author.Tests.{le-leb, lt-leb, eq-eqb, ne_eqb}
use Rattle.family.specs.declared.Family.{Family}
use Rattle.family.specs.declared.Family.TheVariants.{Small, Large}
use Rattle.family.specs.Family.{family_of, pad_limit, length_place}
use Rattle.reports.specs.Report.{reported}
use Rattle.bits.specs.Bits.{no_bits, marked, digest_bytes}
use Rattle.bits.specs.Message.{whole}
use Rattle.bits.proofs.Fitting.{none_fits, none_count}
use Rattle.bits.proofs.Firsts.{first_whole}
use Rattle.state.specs.declared.State.{State}
use Rattle.state.specs.State.{allowed, consistent_of}
use Rattle.finishing.specs.Blocks.{last_block, last_blocks, blocks_of, digest_of}
use Rattle.digest.specs.Calls.{begin_answer, begin_of, add_answer, add_of, one_shot_answer, one_shot_of, one_shot_buffer}
use Rattle.finishing.specs.Finish.{closing, state_digest, finish_answer, finish_of, finish_buffer}
use Rattle.whole_bytes.specs.Before.{byte_limit, byte_allowed, byte_consistent, byte_last_block, byte_last_blocks, byte_blocks, byte_digest, byte_begin_answer, byte_begun, byte_add_answer, byte_added, byte_closing, byte_state_digest, byte_finish_answer, byte_finish_buffer, byte_one_shot_answer, byte_one_shot_buffer}

-- 431 is 8 * 53 + 7 and 879 is 8 * 109 + 7, so whatever the last bits, a rest ends in one block where its whole bytes did.
pub limits : (f : Family) → pad_limit f ≡ 8 * byte_limit f + 7
limits Small = refl
limits Large = refl

pub same_test : (f : Family) (r c : ℕ) → c ≤ 7 → leb (8 * r + c) (pad_limit f) ≡ leb r (byte_limit f)
same_test f r c h = elim (dec_lt (byte_limit f) r) [
  | yes g ↦ lt-leb (8 * r + c) (pad_limit f) (omega (arith, limits f)) ∙ rw (lt-leb r (byte_limit f) g)
  | no g ↦
      let l : r ≤ byte_limit f = omega arith in
      le-leb (8 * r + c) (pad_limit f) (omega (arith, limits f)) ∙ rw (le-leb r (byte_limit f) l)
]

same_place : (f : Family) → length_place f ≡ byte_limit f + 1
same_place Small = refl
same_place Large = refl

none_left : (r : ℕ) → eqb (8 * r + 0) 0 ≡ eqb r 0
none_left zero = refl
none_left (suc r) = rw (ne_eqb (8 * suc r + 0) 0 (λ e. omega arith), ne_eqb (suc r) 0 (λ e. omega arith))

last_whole : (f : Family) (m n : ℕ) (rest : List ℕ) → last_blocks f m (8 * n + no_bits.count) (whole rest) ≡ byte_last_blocks f m n rest
unfolding last_blocks byte_last_blocks last_block byte_last_block no_bits marked
last_whole f m n rest =
    let e : 8 * n + 0 ≡ 8 * n = omega arith in
    rw (same_test f (length rest) 0 (omega arith), none_left (length rest), e, same_place f)

-- The list of (counter, block) of a message of whole bytes.
pub blocks_whole : (f : Family) (m : ℕ) (xs : List ℕ) → blocks_of f m (whole xs) ≡ byte_blocks f m xs
unfolding blocks_of byte_blocks
blocks_whole f m xs = rw (last_whole f m (length xs) _)

-- The digest.
pub digest_whole : (f : Family) (m : ℕ) (salt xs : List ℕ) → m % 8 ≡ 0 → digest_of f m salt (whole xs) ≡ byte_digest f m salt xs
unfolding digest_of byte_digest
digest_whole f m salt xs h = rw (first_whole m _ h, blocks_whole f m xs)

and_true : (t : Bool) → t ≡ (t && true)
and_true true = refl
and_true false = refl

-- m
module _ (m : ℕ) (h : m % 8 ≡ 0) where
  pub allowed_whole : allowed m ≡ byte_allowed m
  unfolding allowed byte_allowed
  allowed_whole = rw (eq-eqb (m % 8) 0 h) (and_true (ltb 0 m && leb m 512))

  size_whole : digest_bytes m ≡ m / 8
  size_whole = omega arith

-- begin, and one-shot of a message of whole bytes
module _ (m : ℕ) (salt : List ℕ) (h : m % 8 ≡ 0) where
  pub begin_whole : begin_of m salt ≡ record { answer = byte_begin_answer m salt; state = byte_begun m salt }
  unfolding begin_of begin_answer byte_begin_answer byte_begun
  begin_whole = rw (allowed_whole m h)

  module _ (xs out : List ℕ) where
    shot_answer : one_shot_answer m salt (whole xs) out ≡ byte_one_shot_answer m salt xs out
    unfolding one_shot_answer byte_one_shot_answer
    shot_answer = rw (allowed_whole m h, none_fits, size_whole m h)

    pub one_shot_whole : (one_shot_of m salt (whole xs) out ≡ reported (byte_one_shot_answer m salt xs out) (length xs) 0 (length (byte_blocks (family_of m) m xs)))
        × (one_shot_buffer m salt (whole xs) out ≡ byte_one_shot_buffer m salt xs out)
    unfolding one_shot_of one_shot_buffer byte_one_shot_buffer
    one_shot_whole = (rw (shot_answer, blocks_whole (family_of m) m xs, none_count), rw (shot_answer, digest_whole (family_of m) m _ xs h))

-- add, and finish with no last bits: what finish was
module _ (s : State) (h : s.m % 8 ≡ 0) where
  pub consistent_whole : consistent_of s ≡ byte_consistent s
  unfolding consistent_of byte_consistent
  consistent_whole = rw (allowed_whole s.m h)

  pub add_whole : (xs : List ℕ) → add_of s xs ≡ record { answer = byte_add_answer s xs; state = byte_added s xs }
  unfolding add_of add_answer byte_add_answer byte_added
  add_whole xs = rw consistent_whole

  closing_whole : closing s no_bits ≡ byte_closing s
  unfolding closing byte_closing
  closing_whole = last_whole s.family s.m s.covered.0 _

  digest_whole_state : state_digest s no_bits ≡ byte_state_digest s
  unfolding state_digest byte_state_digest
  digest_whole_state = rw (first_whole s.m _ h, closing_whole)

  module _ (out : List ℕ) where
    finish_answer_lem : finish_answer s no_bits out ≡ byte_finish_answer s out
    unfolding finish_answer byte_finish_answer
    finish_answer_lem = rw (consistent_whole, none_fits, size_whole s.m h)

    pub finish_whole : (finish_of s no_bits out ≡ record { answer = reported (byte_finish_answer s out) s.covered.0 0 (s.compressed + length (byte_closing s)); state = s })
        × (finish_buffer s no_bits out ≡ byte_finish_buffer s out)
    unfolding finish_of finish_buffer byte_finish_buffer
    finish_whole = (rw (finish_answer_lem, closing_whole, none_count), rw (finish_answer_lem, digest_whole_state))
