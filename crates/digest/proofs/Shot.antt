-- Finishing the state of a message gives what one-shot gives for it.
use mathlib.Core.Path.{◌≡◌}
use mathlib.Core.Bool.{Bool, true, false, not}
use mathlib.Core.List.{List, [], ◌∷◌}
use Prim.Native.Nat.{ℕ, ◌≤◌}
use lib.ListN.{length}
use borrow.Author.Tests.{not-false, le-ltb}
use Rattle.family.specs.Family.{family_of}
use Rattle.answers.specs.declared.refusal.Refusal.{Refusal}
use Rattle.answers.specs.declared.refusal.Refusal.TheVariants.{DigestLength, SaltSize}
use Rattle.std.specs.Prelude.{Ok}
use Rattle.answers.specs.Refusal.{judged}
use Rattle.answers.proofs.Judged.{test_passed}
use Rattle.bits.specs.declared.LastBits.{LastBits}
use Rattle.bits.specs.Message.{message_of}
use Rattle.state.specs.State.{limit, allowed, consistent_of}
use Rattle.digest.specs.Running.{state_of}
use Rattle.digest.specs.Calls.{salt_fits, begin_answer, begin_of, one_shot_answer, one_shot_of, one_shot_buffer}
use Rattle.finishing.specs.Finish.{finish_answer, finish_of, finish_buffer}
use Rattle.digest.proofs.Cuts.{state_consistent, state_digest_lem, state_count}

-- What is known where a call of two tests is accepted.
pub passed : (a t : Bool) (r r' : Refusal) → judged ((not a, r) ∷ (t, r') ∷ []) ≡ Ok tt → (a ≡ true) × (t ≡ false)
passed a t r r' h =
    let p = test_passed (not a) r ((t, r') ∷ []) h in
    (not-false a p.0, (test_passed t r' [] p.1).0)

module _ (m : ℕ) (salt : List ℕ) (h : begin_answer m salt ≡ Ok tt) where
  pub begin_accepted : (allowed m ≡ true) × (salt_fits (family_of m) salt ≡ true)
  unfolding begin_answer
  begin_accepted =
      let p = passed (allowed m) (not (salt_fits (family_of m) salt)) DigestLength SaltSize h in
      (p.0, not-false (salt_fits (family_of m) salt) p.1)

  pub begin_state : (begin_of m salt).state ≡ state_of m salt []
  unfolding begin_of
  begin_state = rw h

  module _ (xs : List ℕ) (room : length xs ≤ limit) where
    pub consistent : consistent_of (state_of m salt xs) ≡ true
    consistent = state_consistent m salt xs begin_accepted.0 begin_accepted.1 room

    module _ (last : LastBits) (out : List ℕ) where
      same_answer : finish_answer (state_of m salt xs) last out ≡ one_shot_answer m salt (message_of xs last) out
      unfolding finish_answer one_shot_answer state_of
      same_answer = rw (consistent, begin_accepted.0, begin_accepted.1, le-ltb limit (length xs) room)

      -- Finishing the state of xs with last bits reports and writes what one-shot does for xs and those bits.
      pub finish_one_shot : ((finish_of (state_of m salt xs) last out).answer ≡ one_shot_of m salt (message_of xs last) out)
          × (finish_buffer (state_of m salt xs) last out ≡ one_shot_buffer m salt (message_of xs last) out)
      unfolding finish_of one_shot_of finish_buffer one_shot_buffer state_of
      finish_one_shot = (rw (same_answer, state_count m salt xs last), rw (same_answer, state_digest_lem m salt xs last))
