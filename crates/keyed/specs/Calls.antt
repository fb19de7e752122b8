-- Begin, add, finish and the tag check, as total functions of their inputs: each with its tests in document 02's order, its result, and what its lent buffer
-- holds afterwards.
use Rattle.std.specs.Prelude.{Bool, not, List, [], ◌∷◌, ℕ, ◌+◌, ◌-◌, ltb, length}
use Rattle.family.specs.Family.{block_bytes}
use Rattle.answers.specs.declared.refusal.Refusal.TheVariants.{DigestLength, MessageLimit, StateInconsistent, BufferShort, KeyLong}
use Rattle.answers.specs.Refusal.{Answer}
use Rattle.answers.specs.Refusal.{judged, if_accepted}
use Rattle.answers.specs.Written.{written}
use Rattle.tag_answers.specs.Tagged.{tagged}
use Rattle.tag_answers.specs.TagCheck.{tag_checked}
use Rattle.fields.specs.Fields.{same}
use Rattle.bits.specs.Bits.{digest_bytes}
use Rattle.state.specs.State.{limit}
use Rattle.digest.specs.Running.{absorbed}
use Rattle.keyed_state.specs.declared.Keyed.{Keyed}
use Rattle.keyed_state.specs.Keyed.{tag_length, keyed_consistent, zero_keyed}
use Rattle.answers.specs.declared.handed.Handed.{Handed}
use Rattle.reports.specs.declared.Length.{Length}
use Rattle.keyed.specs.Running.{keyed_of, state_tag}

-- An answer and the keyed state handed back; what a tag covers; and whether a tag is right.
abbrev pub Step : Type 0
Step = Handed (Unit {0}) Keyed

abbrev pub Finished : Type 0
Finished = Handed Length Keyed

abbrev pub Compared : Type 0
Compared = Handed Bool Keyed

-- "keys up to 65,535 bytes"
abbrev pub key_limit : ℕ
key_limit = 65535

-- begin: 1, 12
unfoldable pub key_begin_answer : ℕ → List ℕ → Answer
key_begin_answer m K = judged ((not (tag_length m), DigestLength) ∷ (ltb key_limit (length K), KeyLong) ∷ [])

unfoldable pub key_begin_of : ℕ → List ℕ → Step
key_begin_of m K = record { answer = key_begin_answer m K; state = if_accepted (key_begin_answer m K) (keyed_of m K []) zero_keyed }

-- add: 4, 3. The inner state covers the key's block, so that "one block and the message together" is what it would cover.
unfoldable pub key_add_answer : Keyed → List ℕ → Answer
key_add_answer k xs = judged ((not (keyed_consistent k), StateInconsistent) ∷ (ltb limit (k.inner.covered.0 + length xs), MessageLimit) ∷ [])

unfoldable pub key_add_of : Keyed → List ℕ → Step
key_add_of k xs = record {
  answer = key_add_answer k xs;
  state = if_accepted (key_add_answer k xs) (record { inner = absorbed k.inner xs; key = k.key }) k;
}

-- finish: 4, 5. It hands back the keyed state that it was given.
unfoldable pub key_finish_answer : Keyed → List ℕ → Answer
key_finish_answer k out = judged ((not (keyed_consistent k), StateInconsistent) ∷ (ltb (length out) (digest_bytes k.inner.m), BufferShort) ∷ [])

-- "Finish reports the message's bytes without the key block, and no blocks."
unfoldable pub key_finish_of : Keyed → List ℕ → Finished
key_finish_of k out = record { answer = tagged (key_finish_answer k out) (k.inner.covered.0 - block_bytes k.inner.family); state = k }

unfoldable pub key_finish_buffer : Keyed → List ℕ → List ℕ
key_finish_buffer k out = written (key_finish_answer k out) (state_tag k) out

-- tag check: 4. "yes exactly for the right tag of m/8 bytes, and no for any other length"
unfoldable pub key_check_answer : Keyed → Answer
key_check_answer k = judged ((not (keyed_consistent k), StateInconsistent) ∷ [])

unfoldable pub key_check_of : Keyed → List ℕ → Compared
key_check_of k tag = record { answer = tag_checked (key_check_answer k) (same (state_tag k) tag); state = k }
