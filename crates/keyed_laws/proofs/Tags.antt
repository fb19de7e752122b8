-- Finishing after any calls from an accepted begin writes the tag of the accepted bytes joined, and a tag check says yes for that tag and no other.
use mathlib.Core.Path.{◌≡◌, refl, ap, sym, ◌∙◌}
use mathlib.Core.Bool.{Bool, true, false, false≢true}
use mathlib.Core.List.{List, [], ◌∷◌}
use Prim.Native.Nat.{ℕ, ◌-◌}
use native.Mathlib.Omega.{arith}
use lib.Dec.{ltb}
use lib.ListN.{length}
use Rattle.family.specs.Family.{block_bytes}
use Rattle.answers.specs.declared.refusal.Refusal.TheVariants.{BufferShort}
use Rattle.answers.specs.Refusal.{Answer}
use Rattle.std.specs.Prelude.{Ok}
use Rattle.answers.specs.Refusal.{judged}
use Rattle.answers.specs.Written.{written}
use Rattle.tag_answers.specs.Tagged.{tagged}
use Rattle.tag_answers.specs.TagCheck.{tag_check_yes, tag_checked}
use Rattle.fields.specs.Fields.{same}
use Rattle.fields.proofs.Comparing.{same_self, same_equal}
use Rattle.bits.specs.Bits.{digest_bytes}
use Rattle.digest.specs.Running.{state_of}
use Rattle.keyed_state.specs.declared.Keyed.{Keyed}
use Rattle.keyed_state.specs.Keyed.{keyed_consistent}
use Rattle.keyed.specs.Hmac.{hmac_of}
use Rattle.keyed.specs.Running.{keyed_of, state_tag}
use Rattle.keyed.specs.Calls.{key_begin_answer, key_begin_of, key_finish_answer, key_finish_of, key_finish_buffer, key_check_answer, key_check_of}
use Rattle.keyed_laws.specs.Sequences.{KeyCall, after_keyed, key_joined}
use Rattle.keyed_laws.proofs.States.{covers, tag_right, keyed_consistent_lem, begun_allowed, begun_whole}
use Rattle.keyed_laws.proofs.Joined.{keyed_calls_joined, keyed_joined_room}

-- A tag check on any consistent keyed state is yes if and only if the tag is the state's.
module _ (k : Keyed) (ok : keyed_consistent k ≡ true) (tag : List ℕ) where
  compared : (key_check_of k tag).answer ≡ tag_checked (Ok tt) (same (state_tag k) tag)
  unfolding key_check_of key_check_answer
  compared = rw ok

  pub yes_right : (key_check_of k tag).answer ≡ Ok true → tag ≡ state_tag k
  yes_right h = by (same (state_tag k) tag) refl (sym compared ∙ h)
    where
      by : (t : Bool) → same (state_tag k) tag ≡ t → tag_checked (Ok tt) t ≡ Ok true → tag ≡ state_tag k
      by true e z = sym (same_equal (state_tag k) tag e)
      by false e z = absurd (false≢true (ap tag_check_yes z))

  pub right_yes : tag ≡ state_tag k → (key_check_of k tag).answer ≡ Ok true
  right_yes e = compared ∙ rw (e, same_self (state_tag k))

  -- and no for any other tag, whatever its length
  pub other_no : (tag ≡ state_tag k → ⊥) → (key_check_of k tag).answer ≡ Ok false
  other_no h = compared ∙ by (same (state_tag k) tag) refl
    where
      by : (t : Bool) → same (state_tag k) tag ≡ t → tag_checked (Ok tt) t ≡ Ok false
      by true e = absurd (h (sym (same_equal (state_tag k) tag e)))
      by false e = refl

module _ (m : ℕ) (K : List ℕ) (h : key_begin_answer m K ≡ Ok tt) (calls : List KeyCall) where
  abbrev reached : Keyed
  reached = after_keyed (key_begin_of m K).state calls

  abbrev text : List ℕ
  text = key_joined (key_begin_of m K).state calls

  reached_consistent : keyed_consistent reached ≡ true
  reached_consistent =
      rw (keyed_calls_joined m K h calls) (keyed_consistent_lem m K (begun_allowed m K h) (begun_whole m K h) text (keyed_joined_room m K h calls))

  reached_tag : state_tag reached ≡ hmac_of m K text
  reached_tag = rw (keyed_calls_joined m K h calls) (tag_right m K (begun_allowed m K h) text)

  -- what finish is left to refuse
  abbrev room : List ℕ → Answer
  room out = judged ((ltb (length out) (digest_bytes m), BufferShort) ∷ [])

  reached_answer : (out : List ℕ) → key_finish_answer reached out ≡ room out
  unfolding key_finish_answer keyed_of state_of
  reached_answer out = rw reached_consistent (rw (keyed_calls_joined m K h calls))

  -- Finishing reports the joined bytes and writes their tag, m/8 bytes, where there is room for it.
  pub keyed_calls_finish : (out : List ℕ)
      → ((key_finish_of reached out).answer ≡ tagged (room out) (length text)) × (key_finish_buffer reached out ≡ written (room out) (hmac_of m K text) out)
  unfolding key_finish_of key_finish_buffer keyed_of state_of
  keyed_calls_finish out =
      let n : reached.inner.covered.0 - block_bytes reached.inner.family ≡ length text =
      rw (keyed_calls_joined m K h calls) (omega (arith, covers m K (begun_allowed m K h) text)) in
      (rw (reached_answer out, n), rw (reached_answer out, reached_tag))

  -- A tag check says yes if and only if the tag is the definition's, and no otherwise.
  pub keyed_calls_check : (tag : List ℕ)
      → ((key_check_of reached tag).answer ≡ Ok true → tag ≡ hmac_of m K text) × (tag ≡ hmac_of m K text → (key_check_of reached tag).answer ≡ Ok true)
      × ((tag ≡ hmac_of m K text → ⊥) → (key_check_of reached tag).answer ≡ Ok false)
  keyed_calls_check tag = (
    λ y. yes_right reached reached_consistent tag y ∙ reached_tag,
    λ e. right_yes reached reached_consistent tag (e ∙ sym reached_tag),
    λ n. other_no reached reached_consistent tag (λ e. n (e ∙ reached_tag)),
  )
