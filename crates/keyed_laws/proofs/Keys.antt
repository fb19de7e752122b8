-- Keys with the same tags, which HMAC is known to have.
use mathlib.Core.Path.{◌≡◌, sym, ◌∙◌}
use mathlib.Core.Bool.{true}
use mathlib.Core.List.{List, ◌++◌, append_assoc}
use Prim.Native.Nat.{ℕ, ◌+◌, ◌-◌, ◌≤◌, ◌<◌}
use native.Mathlib.Omega.{arith}
use lib.ListN.{length, replicate, length-append, length-replicate, replicate-append-replicate}
use Rattle.state.specs.Bytes.{fill}
use Rattle.state.specs.State.{allowed}
use Rattle.keyed.specs.Hmac.{B, h_of, K0, inner_text, hmac_of}
use Rattle.keyed.specs.Running.{keyed_of}
use Rattle.keyed.proofs.Hmac.{k0_short, k0_long, hash_block}

-- the tags of two keys with the same K0
same_tags : (m : ℕ) (K L : List ℕ) → K0 m K ≡ K0 m L → (text : List ℕ) → (keyed_of m K text ≡ keyed_of m L text) × (hmac_of m K text ≡ hmac_of m L text)
unfolding keyed_of hmac_of inner_text
same_tags m K L e text = (rw e, rw e)

fill_more : (b n : ℕ) (K : List ℕ) → length K + n ≤ b → fill b (K ++ replicate n 0) ≡ fill b K
unfolding fill
fill_more b n K h =
    let e : n + (b - (length K + n)) ≡ b - length K = omega arith in
    rw (length-append, length-replicate, append_assoc, replicate-append-replicate, e)

-- A key of at most a block and the same key with zeros behind it, as far as the block goes, lead to the same keyed states and have the same tags.
pub zeros_behind : (m n : ℕ) (K : List ℕ) → length K + n ≤ B m → (text : List ℕ)
    → (keyed_of m (K ++ replicate n 0) text ≡ keyed_of m K text) × (hmac_of m (K ++ replicate n 0) text ≡ hmac_of m K text)
zeros_behind m n K h =
    same_tags m (K ++ replicate n 0) K
    (k0_short m (K ++ replicate n 0) (rw (length-append, length-replicate) h) ∙ fill_more (B m) n K h ∙ sym (k0_short m K (omega arith)))

-- So do a key of more than a block and its digest.
pub hashed_key : (m : ℕ) → allowed m ≡ true → (K : List ℕ) → B m < length K → (text : List ℕ)
    → (keyed_of m (h_of m K) text ≡ keyed_of m K text) × (hmac_of m (h_of m K) text ≡ hmac_of m K text)
hashed_key m ok K h = same_tags m (h_of m K) K (k0_short m (h_of m K) (hash_block m K ok K) ∙ sym (k0_long m K h))
