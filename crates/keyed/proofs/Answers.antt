-- What the keyed calls answer: where a test decides, and where none does.
use mathlib.Core.Path.{◌≡◌, refl, ◌∙◌}
use mathlib.Core.Bool.{Bool, true, false}
use mathlib.Core.List.{List}
use Prim.Native.Nat.{ℕ, ◌-◌, ◌%◌, ◌≤◌, ◌<◌}
use native.Mathlib.Omega.{arith}
use lib.Dec.{eqb}
use lib.ListN.{length}
use lib.Seq.{sets}
use borrow.Author.Tests.{lt-ltb, le-ltb}
use Rattle.family.specs.Family.{block_bytes}
use Rattle.answers.specs.declared.refusal.Refusal.{Refusal}
use Rattle.answers.specs.declared.refusal.Refusal.TheVariants.{DigestLength, StateInconsistent, BufferShort, KeyLong}
use Rattle.answers.specs.Refusal.{Answer}
use Rattle.std.specs.Prelude.{Ok, Err}
use Rattle.answers.specs.Refusal.{if_accepted}
use Rattle.answers.proofs.Tests.{and_right}
use Rattle.fields.specs.Fields.{same}
use Rattle.fields.proofs.Storing.{sets_front}
use Rattle.bits.specs.Bits.{digest_bytes}
use Rattle.state.specs.State.{allowed}
use Rattle.digest.specs.Calls as digest
use Rattle.digest.specs.Running.{absorbed}
use Rattle.digest.specs.Calls.{add_answer, add_of}
use Rattle.keyed_state.specs.declared.Keyed.{Keyed}
use Rattle.keyed_state.specs.Keyed.{tag_length, keyed_consistent}
use Rattle.keyed_state.proofs.Soundness.{keyed_sound}
use Rattle.tag_answers.specs.TagCheck.{TagCheck}
use Rattle.keyed.specs.Calls.{Step, Finished}
use Rattle.keyed.specs.Running.{state_tag}
use Rattle.keyed.specs.Calls.{key_limit, key_begin_answer, key_add_answer, key_add_of, key_finish_answer, key_finish_of, key_finish_buffer, key_check_answer, key_check_of}
use Rattle.keyed.proofs.Tags.{tag_length_lem}

-- begin
pub tag_allowed : (m : ℕ) → tag_length m ≡ true → allowed m ≡ true
unfolding tag_length
tag_allowed m h = and_right (eqb (m % 8) 0) (allowed m) h

module _ (m : ℕ) (K : List ℕ) where
  pub begin_length : tag_length m ≡ false → key_begin_answer m K ≡ Err DigestLength
  unfolding key_begin_answer
  begin_length h = rw h

  module _ (ok : tag_length m ≡ true) where
    pub begin_long : key_limit < length K → key_begin_answer m K ≡ Err KeyLong
    unfolding key_begin_answer
    begin_long h = rw (ok, lt-ltb key_limit (length K) h)

    pub begin_in : length K ≤ key_limit → key_begin_answer m K ≡ Ok tt
    unfolding key_begin_answer
    begin_in h = rw (ok, le-ltb key_limit (length K) h)

-- add
module _ (k : Keyed) (xs : List ℕ) where
  pub add_not : keyed_consistent k ≡ false → ◌≡◌ {A = Step} (record { answer = Err StateInconsistent; state = k }) (key_add_of k xs)
  unfolding key_add_of key_add_answer
  add_not h = rw h

  -- past the keyed state's own test it is the digest's add
  pub add_answer_lem : keyed_consistent k ≡ true → key_add_answer k xs ≡ add_answer k.inner xs
  unfolding key_add_answer add_answer
  add_answer_lem ok = rw (ok, (keyed_sound k ok).inner)

  pub add_inner : keyed_consistent k ≡ true → {r : digest.Step} → r ≡ add_of k.inner xs
      → ◌≡◌ {A = Step} (record { answer = r.answer; state = record { inner = r.state; key = k.key } }) (key_add_of k xs)
  unfolding key_add_of add_of
  add_inner ok e = rw (e, add_answer_lem ok) (by (add_answer k.inner xs))
    where
      by : (a : Answer) → ◌≡◌ {A = Step} (record { answer = a; state = record { inner = if_accepted a (absorbed k.inner xs) k.inner; key = k.key } })
          (record { answer = a; state = if_accepted a (record { inner = absorbed k.inner xs; key = k.key }) k })
      by (Ok u) = refl
      by (Err r) = refl

-- finish
module _ (k : Keyed) (out : List ℕ) where
  pub finish_not : keyed_consistent k ≡ false → key_finish_answer k out ≡ Err StateInconsistent
  unfolding key_finish_answer
  finish_not h = rw h

  pub finish_refused : {r : Refusal} → key_finish_answer k out ≡ Err r
      → ◌≡◌ {A = Finished} (record { answer = Err r; state = k }) (key_finish_of k out) × (out ≡ key_finish_buffer k out)
  unfolding key_finish_of key_finish_buffer
  finish_refused e = (rw e, rw e)

  module _ (ok : keyed_consistent k ≡ true) {size : ℕ} (es : size ≡ digest_bytes k.inner.m) where
    pub finish_short : length out < size → key_finish_answer k out ≡ Err BufferShort
    unfolding key_finish_answer
    finish_short h = rw (ok, ← es, lt-ltb (length out) size h)

    pub finish_in : size ≤ length out → key_finish_answer k out ≡ Ok tt
    unfolding key_finish_answer
    finish_in h = rw (ok, ← es, le-ltb (length out) size h)

    pub finished : size ≤ length out → {b : ℕ} → b ≡ block_bytes k.inner.family → {tag after : List ℕ} → tag ≡ state_tag k → after ≡ sets out 0 tag
        → ◌≡◌ {A = Finished} (record { answer = Ok (record { 0 = k.inner.covered.0 - b }); state = k }) (key_finish_of k out) × (after ≡ key_finish_buffer k out)
    unfolding key_finish_of key_finish_buffer
    finished h eb et e =
        (rw (finish_in h, eb), rw (finish_in h) (e ∙ rw et (sets_front out (state_tag k) (omega (arith, tag_length_lem k ok)))))

-- tag check
module _ (k : Keyed) (tag : List ℕ) where
  pub check_not : keyed_consistent k ≡ false → ◌≡◌ {A = TagCheck} (Err StateInconsistent) (key_check_of k tag).answer
  unfolding key_check_of key_check_answer
  check_not h = rw h

  module _ (ok : keyed_consistent k ≡ true) where
    pub check_made : {right : Bool} → right ≡ same (state_tag k) tag → ◌≡◌ {A = TagCheck} (Ok right) (key_check_of k tag).answer
    unfolding key_check_of key_check_answer
    check_made e = rw (ok, e)
