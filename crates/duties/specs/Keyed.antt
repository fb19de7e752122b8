-- Every call of keyed digests with what it is given: what it answers, and what a refusal leaves (the letter's first duty). `Asked` has the other calls.
use Rattle.std.specs.Prelude.{◌≡◌, Bool, false, List, [], ◌∷◌, ℕ}
use Rattle.answers.specs.Refusal.{answer_number}
use Rattle.tag_answers.specs.Tagged.{tagged_number, tagged_covered}
use Rattle.tag_answers.specs.TagCheck.{tag_check_number, tag_check_yes}
use Rattle.keyed_state.specs.declared.Keyed.{Keyed}
use Rattle.keyed_state.specs.Keyed.{zero_keyed}
use Rattle.keyed.specs.Calls.{key_begin_of, key_add_of, key_finish_of, key_finish_buffer, key_check_of}

-- A call: tag length and key; keyed state and bytes, buffer or tag.
pub data AskedKeyed : Type 0 where
  key_begin : ℕ → List ℕ → AskedKeyed
  key_add : Keyed → List ℕ → AskedKeyed
  key_finish : Keyed → List ℕ → AskedKeyed
  key_check : Keyed → List ℕ → AskedKeyed

-- the answer's number, 0 where the call is accepted
unfoldable pub keyed_answered : AskedKeyed → ℕ
keyed_answered (key_begin m K) = answer_number (key_begin_of m K).answer
keyed_answered (key_add k xs) = answer_number (key_add_of k xs).answer
keyed_answered (key_finish k out) = tagged_number (key_finish_of k out).answer
keyed_answered (key_check k tag) = tag_check_number (key_check_of k tag).answer

-- Document 02, Eight: start 1, 12; add 4, 3; finish 4, 5; tag check 4. 0 stands for acceptance.
unfoldable pub keyed_listed : AskedKeyed → List ℕ
keyed_listed (key_begin m K) = 0 ∷ 1 ∷ 12 ∷ []
keyed_listed (key_add k xs) = 0 ∷ 4 ∷ 3 ∷ []
keyed_listed (key_finish k out) = 0 ∷ 4 ∷ 5 ∷ []
keyed_listed (key_check k tag) = 0 ∷ 4 ∷ []

-- It hands back the keyed state it was given; begin, which was given none, the all-zero keyed state.
unfoldable pub KeyedStateBack : AskedKeyed → Type 0
KeyedStateBack (key_begin m K) = (key_begin_of m K).state ≡ zero_keyed
KeyedStateBack (key_add k xs) = (key_add_of k xs).state ≡ k
KeyedStateBack (key_finish k out) = (key_finish_of k out).state ≡ k
KeyedStateBack (key_check k tag) = (key_check_of k tag).state ≡ k

-- It writes to no lent buffer.
unfoldable pub KeyedBufferKept : AskedKeyed → Type 0
KeyedBufferKept (key_begin m K) = Unit {0}
KeyedBufferKept (key_add k xs) = Unit {0}
KeyedBufferKept (key_finish k out) = key_finish_buffer k out ≡ out
KeyedBufferKept (key_check k tag) = Unit {0}

-- It answers zero for the bytes covered, and no for a tag.
unfoldable pub KeyedValuesZero : AskedKeyed → Type 0
KeyedValuesZero (key_begin m K) = Unit {0}
KeyedValuesZero (key_add k xs) = Unit {0}
KeyedValuesZero (key_finish k out) = tagged_covered (key_finish_of k out).answer ≡ 0
KeyedValuesZero (key_check k tag) = tag_check_yes (key_check_of k tag).answer ≡ false
