-- The keyed state of m, key and a message: what it covers, that it is consistent, and its tag; and which states the calls hand back.
use mathlib.Core.Path.{◌≡◌, ap, ◌∙◌}
use mathlib.Core.Bool.{true, false}
use mathlib.Core.List.{List, []}
use Prim.Native.Nat.{ℕ, ◌+◌, ◌%◌, ◌≤◌}
use native.Mathlib.Omega.{arith}
use lib.Dec.{eqb, ltb}
use lib.ListN.{length, length-append}
use borrow.Author.Tests.{eqb-true, ltb-false}
use Rattle.family.specs.Family.{family_of}
use Rattle.family.proofs.Sizes.{block_max}
use Rattle.answers.specs.declared.refusal.Refusal.TheVariants.{DigestLength, MessageLimit, StateInconsistent, KeyLong}
use Rattle.std.specs.Prelude.{Ok}
use Rattle.answers.proofs.Tests.{and_left}
use Rattle.bits.specs.Bits.{no_bits}
use Rattle.state.specs.State.{limit, allowed}
use Rattle.state.proofs.Filling.{zero_list, fill_nil, fill_take, zero_fill}
use Rattle.digest.specs.Running.{state_of, absorbed}
use Rattle.digest.proofs.Cuts.{state_digest_lem}
use Rattle.digest.proofs.Shot.{passed}
use Rattle.sequences.proofs.Joined.{zero_inconsistent, absorbed_consistent}
use Rattle.keyed_state.specs.declared.Keyed.{Keyed}
use Rattle.keyed_state.specs.Keyed.{tag_length, keyed_consistent, zero_keyed}
use Rattle.keyed_state.proofs.Soundness.{keyed_sound, keyed_consistent_of}
use Rattle.keyed.specs.Hmac.{B, h_of, ipad, ◌⊕◌, K0, inner_text, hmac_of}
use Rattle.keyed.specs.Running.{keyed_of, state_tag}
use Rattle.keyed.specs.Calls.{key_limit, key_begin_answer, key_begin_of, key_add_answer, key_add_of}
use Rattle.keyed.proofs.Xor.{pad_length}
use Rattle.keyed.proofs.Digests.{consistent}
use Rattle.keyed.proofs.Hmac.{k0_length}
use Rattle.keyed.proofs.Answers.{tag_allowed}

-- where a keyed add is accepted
pub keyed_accepted : (k : Keyed) (xs : List ℕ) → key_add_answer k xs ≡ Ok tt → (keyed_consistent k ≡ true) × (k.inner.covered.0 + length xs ≤ limit)
unfolding key_add_answer
keyed_accepted k xs h =
    let p = passed (keyed_consistent k) (ltb limit (k.inner.covered.0 + length xs)) StateInconsistent MessageLimit h in
    (p.0, ltb-false limit (k.inner.covered.0 + length xs) p.1)

module _ (m : ℕ) (K : List ℕ) (ok : allowed m ≡ true) where
  inner_length : (text : List ℕ) → length (inner_text m K text) ≡ B m + length text
  unfolding inner_text
  inner_length text = length-append (K0 m K ⊕ ipad (B m)) text ∙ ap (λ (n : ℕ). n + length text) (pad_length (K0 m K) (B m) 54 (k0_length m K ok))

  -- the message's bytes and the key's block
  pub covers : (text : List ℕ) → (keyed_of m K text).inner.covered.0 ≡ B m + length text
  unfolding keyed_of state_of
  covers text = inner_length text

  -- The tag of the keyed state is that of the definition.
  pub tag_right : (text : List ℕ) → state_tag (keyed_of m K text) ≡ hmac_of m K text
  unfolding state_tag keyed_of state_of hmac_of h_of
  tag_right text = rw (fill_take 128 (K0 m K) (B m) (k0_length m K ok), state_digest_lem m [] (inner_text m K text) no_bits)

  pub keyed_consistent_lem : m % 8 ≡ 0 → (text : List ℕ) → B m + length text ≤ limit → keyed_consistent (keyed_of m K text) ≡ true
  unfolding keyed_of state_of
  keyed_consistent_lem whole text room = keyed_consistent_of (keyed_of m K text) (record {
    inner = consistent m ok (inner_text m K text) (omega (arith, inner_length text));
    whole_bytes = whole;
    unsalted = rw (fill_nil 64) (zero_list 64);
    block = omega (arith, inner_length text);
    padded = zero_fill 128 (K0 m K) (B m) (omega (arith, k0_length m K ok));
  })

module _ (m : ℕ) (K : List ℕ) (h : key_begin_answer m K ≡ Ok tt) where
  begun : (tag_length m ≡ true) × (length K ≤ key_limit)
  unfolding key_begin_answer
  begun =
      let p = passed (tag_length m) (ltb key_limit (length K)) DigestLength KeyLong h in
      (p.0, ltb-false key_limit (length K) p.1)

  pub begun_allowed : allowed m ≡ true
  begun_allowed = tag_allowed m begun.0

  pub begun_whole : m % 8 ≡ 0
  unfolding tag_length
  begun_whole = eqb-true (m % 8) 0 (and_left (eqb (m % 8) 0) (allowed m) begun.0)

  pub begin_keyed : (key_begin_of m K).state ≡ keyed_of m K []
  unfolding key_begin_of
  begin_keyed = rw h

  -- An accepted begin hands back a consistent keyed state.
  pub begin_consistent : keyed_consistent (key_begin_of m K).state ≡ true
  begin_consistent = rw begin_keyed (keyed_consistent_lem m K begun_allowed begun_whole [] (omega (arith, block_max (family_of m))))

-- A refused begin's is not consistent.
pub zero_keyed_inconsistent : keyed_consistent zero_keyed ≡ false
unfolding keyed_consistent zero_keyed
zero_keyed_inconsistent = rw zero_inconsistent

-- An accepted add hands back a consistent keyed state.
pub add_consistent : (k : Keyed) → length k.inner.held ≡ 128 → (xs : List ℕ) → key_add_answer k xs ≡ Ok tt → keyed_consistent (key_add_of k xs).state ≡ true
unfolding key_add_of absorbed
add_consistent k full xs h =
    let p = keyed_accepted k xs h in
    let s = keyed_sound k p.0 in
    rw h (keyed_consistent_of (record { inner = absorbed k.inner xs; key = k.key }) (record {
      inner = absorbed_consistent k.inner full s.inner xs p.1;
      whole_bytes = s.whole_bytes;
      unsalted = s.unsalted;
      block = omega (arith, s.block);
      padded = s.padded;
    }))
