-- The keyed state that begin makes, and the tag of a keyed state, from what the calls before them ensure.
use mathlib.Core.Path.{◌≡◌, ◌∙◌}
use mathlib.Core.Bool.{true}
use mathlib.Core.List.{List, [], ◌++◌, append-nil}
use Prim.Native.Nat.{ℕ, ◌≤◌}
use lib.ListN.{length, take, replicate}
use Rattle.family.specs.Family.{block_bytes}
use Rattle.family.proofs.Sizes.{block_max}
use Rattle.bits.specs.declared.LastBits.{LastBits}
use Rattle.bits.specs.Bits.{no_bits, digest_bytes}
use Rattle.state.specs.declared.State.{State}
use Rattle.state.specs.Bytes.{fill}
use Rattle.state.specs.State.{allowed}
use Rattle.state.proofs.Soundness.{sound}
use Rattle.state.proofs.Filling.{fill_take}
use Rattle.finishing.specs.Finish.{state_digest, finish_buffer}
use Rattle.finishing.proofs.Answers.{m_max, state_digest_length}
use Rattle.digest.specs.Running.{state_of}
use Rattle.keyed_state.specs.declared.Keyed.{Keyed}
use Rattle.keyed_state.specs.Keyed.{keyed_consistent}
use Rattle.keyed_state.proofs.Soundness.{keyed_sound}
use Rattle.keyed.specs.Hmac.{B, h_of, repeated, ipad, ◌⊕◌, K0, inner_text}
use Rattle.keyed.specs.Running.{keyed_of, state_tag}
use Rattle.keyed.proofs.Xor.{xor_take, repeated_take}
use Rattle.keyed.proofs.Digests.{finish_filled}
use Rattle.keyed.proofs.Hmac.{hash_length, k0_length}

-- the first b bytes of a block xored with a pad
pub pad_front : (b p : ℕ) (key : List ℕ) → b ≤ 128 → take b (key ⊕ repeated 128 p) ≡ take b key ⊕ repeated b p
pad_front b p key h = rw (xor_take b key (repeated 128 p), repeated_take 128 b p h)

pub opened_keyed : (m : ℕ) (K : List ℕ) → allowed m ≡ true → {key : List ℕ} → key ≡ fill 128 (K0 m K) → {s : State} → s ≡ state_of m [] (take (B m) key ⊕ ipad (B m))
    → ◌≡◌ {A = Keyed} (record { inner = s; key = key }) (keyed_of m K [])
unfolding keyed_of inner_text
opened_keyed m K ok e es = rw (es, e, fill_take 128 (K0 m K) (B m) (k0_length m K ok), append-nil (K0 m K ⊕ ipad (B m)))

module _ (k : Keyed) (ok : keyed_consistent k ≡ true) where
  pub keyed_allowed : allowed k.inner.m ≡ true
  keyed_allowed = (sound k.inner (keyed_sound k ok).inner).allowed

  pub tag_length_lem : length (state_tag k) ≡ digest_bytes k.inner.m
  unfolding state_tag
  tag_length_lem = hash_length k.inner.m keyed_allowed _

  -- the tag at the front of 64 bytes
  pub tag_front : {size : ℕ} → size ≡ digest_bytes k.inner.m → {tag : List ℕ} → tag ≡ fill 64 (state_tag k) → take size tag ≡ state_tag k
  tag_front es e = rw (es, e) (fill_take 64 (state_tag k) (digest_bytes k.inner.m) tag_length_lem)

  pub tag_made : length k.inner.chain ≡ 16 → {b size : ℕ} → b ≡ block_bytes k.inner.family → size ≡ digest_bytes k.inner.m
      → {block digest first second tag : List ℕ} {last : LastBits}
      → last ≡ no_bits → digest ≡ finish_buffer k.inner last (replicate 64 0) → block ≡ k.key ⊕ repeated 128 92
      → first ≡ take b block → second ≡ take size digest
      → tag ≡ fill 64 (h_of k.inner.m (first ++ second)) → tag ≡ fill 64 (state_tag k)
  unfolding state_tag
  tag_made sixteen eb es el ed ek ef ey et =
      let s = k.inner in
      let c = (keyed_sound k ok).inner in
      let l = state_digest_length s no_bits sixteen (m_max s.m (sound s c).allowed) in
      et
      ∙ rw (
        ef,
        ey,
        eb,
        ek,
        es,
        ed,
        finish_filled s c el,
        pad_front (block_bytes s.family) 92 k.key (block_max s.family),
        fill_take 64 (state_digest s no_bits) (digest_bytes s.m) l,
      )
