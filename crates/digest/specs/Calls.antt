-- Begin, add and one-shot, as total functions of their inputs: each with its tests in document 01's order, its result, and what its lent buffer holds
-- afterwards. Finish, on which one-shot ends, stands in the crate below.
use Rattle.std.specs.Prelude.{Bool, not, ◌||◌, List, [], ◌∷◌, ℕ, ◌+◌, eqb, ltb, length}
use Rattle.family.specs.declared.Family.{Family}
use Rattle.family.specs.Family.{family_of, salt_bytes}
use Rattle.answers.specs.declared.refusal.Refusal.TheVariants.{DigestLength, SaltSize, MessageLimit, StateInconsistent, BufferShort, BitsUnfit}
use Rattle.answers.specs.Refusal.{Answer}
use Rattle.bits.specs.Bits.{last_fits, digest_bytes}
use Rattle.bits.specs.Message.{Message}
use Rattle.state.specs.declared.State.{State}
use Rattle.answers.specs.declared.handed.Handed.{Handed}
use Rattle.reports.specs.Report.{Report}
use Rattle.answers.specs.Refusal.{judged, if_accepted}
use Rattle.reports.specs.Report.{reported}
use Rattle.answers.specs.Written.{written}
use Rattle.state.specs.Bytes.{fill}
use Rattle.finishing.specs.Blocks.{blocks_of, digest_of}
use Rattle.state.specs.State.{limit, allowed, consistent_of, zero_state}
use Rattle.digest.specs.Running.{state_of, absorbed}

-- salt empty or of the family's size
unfoldable pub salt_fits : Family → List ℕ → Bool
salt_fits f salt = eqb (length salt) 0 || eqb (length salt) (salt_bytes f)

-- an answer, and the state handed back
abbrev pub Step : Type 0
Step = Handed (Unit {0}) State

-- begin: 1, 2
unfoldable pub begin_answer : ℕ → List ℕ → Answer
begin_answer m salt = judged ((not (allowed m), DigestLength) ∷ (not (salt_fits (family_of m) salt), SaltSize) ∷ [])

unfoldable pub begin_of : ℕ → List ℕ → Step
begin_of m salt = record { answer = begin_answer m salt; state = if_accepted (begin_answer m salt) (state_of m salt []) zero_state }

-- add: 4, 3
unfoldable pub add_answer : State → List ℕ → Answer
add_answer s xs = judged ((not (consistent_of s), StateInconsistent) ∷ (ltb limit (s.covered.0 + length xs), MessageLimit) ∷ [])

unfoldable pub add_of : State → List ℕ → Step
add_of s xs = record { answer = add_answer s xs; state = if_accepted (add_answer s xs) (absorbed s xs) s }

-- one-shot: 1, 2, 3, 11, 5
unfoldable pub one_shot_answer : ℕ → List ℕ → Message → List ℕ → Answer
one_shot_answer m salt x out =
    judged (
    (not (allowed m), DigestLength) ∷ (not (salt_fits (family_of m) salt), SaltSize) ∷ (ltb limit (length x.bytes), MessageLimit)
    ∷ (not (last_fits x.last), BitsUnfit) ∷ (ltb (length out) (digest_bytes m), BufferShort) ∷ []
    )

unfoldable pub one_shot_of : ℕ → List ℕ → Message → List ℕ → Report
one_shot_of m salt x out = reported (one_shot_answer m salt x out) (length x.bytes) x.last.count (length (blocks_of (family_of m) m x))

unfoldable pub one_shot_buffer : ℕ → List ℕ → Message → List ℕ → List ℕ
one_shot_buffer m salt x out = written (one_shot_answer m salt x out) (digest_of (family_of m) m (fill 64 salt) x) out
