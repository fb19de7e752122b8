-- K0: its two ways, how long it is, and the block that it is in.
use mathlib.Core.Path.{◌≡◌, sym}
use mathlib.Core.Bool.{true}
use mathlib.Core.List.{List, []}
use Prim.Native.Nat.{ℕ, ◌≤◌, ◌<◌}
use native.Mathlib.Omega.{arith}
use native.Mathlib.Decide.{ℕ_discrete, dec_lt}
use lib.ListN.{length}
use borrow.Author.Tests.{eq-eqb, ne_eqb, lt-ltb, le-ltb}
use Rattle.family.specs.declared.Family.{Family}
use Rattle.family.specs.declared.Family.TheVariants.{Small, Large}
use Rattle.family.specs.Family.{family_of, block_bytes}
use Rattle.family.proofs.Sizes.{block_max}
use Rattle.bits.specs.Bits.{digest_bytes}
use Rattle.bits.specs.Message.{whole}
use Rattle.state.specs.Bytes.{fill}
use Rattle.state.specs.State.{allowed}
use Rattle.state.proofs.Filling.{fill_length}
use Rattle.finishing.proofs.Answers.{m_max, digest_length}
use Rattle.keyed.specs.Hmac.{B, h_of, K0}
use Rattle.keyed.proofs.Filled.{fill_fill, fill_none}

block_least : (f : Family) → 64 ≤ block_bytes f
block_least Small = omega arith
block_least Large = omega arith

pub hash_length : (m : ℕ) → allowed m ≡ true → (xs : List ℕ) → length (h_of m xs) ≡ digest_bytes m
unfolding h_of
hash_length m ok xs = digest_length (family_of m) m (fill 64 []) (whole xs) (m_max m ok)

module _ (m : ℕ) (K : List ℕ) where
  -- step 2
  pub k0_long : B m < length K → K0 m K ≡ fill (B m) (h_of m K)
  unfolding K0
  k0_long h = rw (ne_eqb (length K) (B m) (λ e. omega arith), lt-ltb (B m) (length K) h)

  -- steps 1 and 3 are one: nothing is appended to a key of B bytes
  pub k0_short : length K ≤ B m → K0 m K ≡ fill (B m) K
  unfolding K0
  k0_short h = go (ℕ_discrete (length K) (B m))
    where
      go : Dec (length K ≡ B m) → K0 m K ≡ fill (B m) K
      go (yes e) = rw (eq-eqb (length K) (B m) e) (sym (fill_none (B m) K e))
      go (no n) = rw (ne_eqb (length K) (B m) n, le-ltb (B m) (length K) h)

  pub key_short : length K ≤ B m → fill 128 K ≡ fill 128 (K0 m K)
  key_short h = rw (k0_short h) (sym (fill_fill 128 (B m) K h (block_max (family_of m))))

  module _ (ok : allowed m ≡ true) where
    pub hash_max : (xs : List ℕ) → length (h_of m xs) ≤ 64
    hash_max xs = omega (arith, m_max m ok, hash_length m ok xs)

    pub hash_block : (xs : List ℕ) → length (h_of m xs) ≤ B m
    hash_block xs = omega (arith, hash_max xs, block_least (family_of m))

    pub key_long : B m < length K → fill 128 (fill 64 (h_of m K)) ≡ fill 128 (K0 m K)
    key_long h =
        let l = hash_max K in
        rw (k0_long h, fill_fill 128 64 (h_of m K) l (omega arith))
        (sym (fill_fill 128 (B m) (h_of m K) (hash_block K) (block_max (family_of m))))

    pub k0_length : length (K0 m K) ≡ B m
    k0_length = go (dec_lt (B m) (length K))
      where
        go : Dec (B m < length K) → length (K0 m K) ≡ B m
        go (yes h) = rw (k0_long h) (fill_length (B m) (h_of m K) (hash_block K))
        go (no h) = rw (k0_short (omega arith)) (fill_length (B m) K (omega arith))
