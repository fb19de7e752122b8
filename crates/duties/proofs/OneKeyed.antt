-- The first duty, of keyed digests.
use mathlib.Core.Path.{◌≡◌, refl, ◌∙◌}
use mathlib.Core.Bool.{Bool, true, false, not}
use mathlib.Core.List.{List, [], ◌∷◌, Memᴰ}
use Prim.Native.Nat.{ℕ, ◌+◌}
use lib.Dec.{ltb}
use lib.ListN.{length}
use Rattle.answers.specs.declared.refusal.Refusal.TheVariants.{DigestLength, MessageLimit, StateInconsistent, BufferShort, KeyLong}
use Rattle.answers.specs.Refusal.{Answer}
use Rattle.std.specs.Prelude.{Ok, Err}
use Rattle.tag_answers.specs.Tagged.{tagged_number, tagged_covered, tagged}
use Rattle.tag_answers.specs.TagCheck.{tag_check_number, tag_check_yes, tag_checked}
use Rattle.fields.specs.Fields.{same}
use Rattle.bits.specs.Bits.{digest_bytes}
use Rattle.state.specs.State.{limit}
use Rattle.keyed_state.specs.Keyed.{tag_length, keyed_consistent}
use Rattle.keyed.specs.Running.{state_tag}
use Rattle.keyed.specs.Calls.{key_limit, key_begin_answer, key_begin_of, key_add_answer, key_add_of, key_finish_answer, key_finish_of, key_finish_buffer, key_check_answer, key_check_of}
use Rattle.duties.specs.Keyed.{AskedKeyed, key_begin, key_add, key_finish, key_check, keyed_answered, keyed_listed, KeyedStateBack, KeyedBufferKept, KeyedValuesZero}
use Rattle.duties.proofs.Numbers.{judged_listed, tagged_number_lem, tag_checked_number}
use Rattle.duties.proofs.One.{not_accepted}

not_tagged : (a : Answer) (n : ℕ) → (tagged_number (tagged a n) ≡ 0 → ⊥) → tagged_covered (tagged a n) ≡ 0
not_tagged (Ok u) n h = absurd (h refl)
not_tagged (Err r) n h = refl

not_compared : (a : Answer) (right : Bool) → (tag_check_number (tag_checked a right) ≡ 0 → ⊥) → tag_check_yes (tag_checked a right) ≡ false
not_compared (Ok u) true h = absurd (h refl)
not_compared (Ok u) false h = absurd (h refl)
not_compared (Err r) right h = refl

-- Every keyed call ends with a listed result on every input, spoiled states included.
pub every_keyed_call_listed : (c : AskedKeyed) → Memᴰ (keyed_answered c) (keyed_listed c)
unfolding keyed_answered keyed_listed key_begin_of key_begin_answer key_add_of key_add_answer key_finish_of key_finish_answer key_check_of key_check_answer
every_keyed_call_listed (key_begin m K) = judged_listed ((not (tag_length m), DigestLength) ∷ (ltb key_limit (length K), KeyLong) ∷ [])
every_keyed_call_listed (key_add k xs) =
    judged_listed ((not (keyed_consistent k), StateInconsistent) ∷ (ltb limit (k.inner.covered.0 + length xs), MessageLimit) ∷ [])
every_keyed_call_listed (key_finish k out) =
    rw (tagged_number_lem (key_finish_answer k out) _)
    (judged_listed ((not (keyed_consistent k), StateInconsistent) ∷ (ltb (length out) (digest_bytes k.inner.m), BufferShort) ∷ []))
every_keyed_call_listed (key_check k tag) =
    rw (tag_checked_number (key_check_answer k) (same (state_tag k) tag)) (judged_listed ((not (keyed_consistent k), StateInconsistent) ∷ []))

-- A refusal hands back the keyed state it was given, writes to no lent buffer and answers zero for the bytes covered and no for a tag.
pub keyed_refusal_leaves : (c : AskedKeyed) → (keyed_answered c ≡ 0 → ⊥) → KeyedStateBack c × KeyedBufferKept c × KeyedValuesZero c
unfolding keyed_answered KeyedStateBack KeyedBufferKept KeyedValuesZero key_begin_of key_add_of key_finish_of key_finish_buffer key_check_of
keyed_refusal_leaves (key_begin m K) h = (not_accepted (key_begin_answer m K) _ _ h, tt, tt)
keyed_refusal_leaves (key_add k xs) h = (not_accepted (key_add_answer k xs) _ _ h, tt, tt)
keyed_refusal_leaves (key_finish k out) h =
    let a = key_finish_answer k out in
    (refl, not_accepted a _ _ (λ e. h (tagged_number_lem a _ ∙ e)), not_tagged a _ h)
keyed_refusal_leaves (key_check k tag) h = (refl, tt, not_compared (key_check_answer k) (same (state_tag k) tag) h)
