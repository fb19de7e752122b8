-- What the salt's test says of its length, and what is known of blocks that are taken at once.
use mathlib.Core.Path.{◌≡◌, refl}
use mathlib.Core.Bool.{Bool, true, false, cond, ◌||◌}
use mathlib.Core.List.{List}
use Prim.Native.Nat.{ℕ, ◌+◌, ◌-◌, ◌*◌, ◌/◌, min, ◌≤◌, ◌<◌}
use native.Mathlib.Omega.{arith}
use native.Mathlib.Nat.{div-mul-le_self, le-mul_of_pos_right}
use lib.Dec.{eqb}
use lib.ListN.{length}
use borrow.Author.Tests.{eqb-true}
use Rattle.family.specs.declared.Family.{Family}
use Rattle.family.specs.Family.{salt_bytes, block_bytes}
use Rattle.family.proofs.Sizes.{block_pos, block_max}
use Rattle.digest.specs.Calls.{salt_fits}

pub salt_size : (f : Family) (salt : List ℕ) → salt_fits f salt ≡ true → length salt ≤ salt_bytes f
unfolding salt_fits
salt_size f salt h = by (eqb (length salt) 0) refl h
  where
    by : (t : Bool) → eqb (length salt) 0 ≡ t → (t || eqb (length salt) (salt_bytes f)) ≡ true → length salt ≤ salt_bytes f
    by true e h = omega (arith, eqb-true (length salt) 0 e)
    by false e h = omega (arith, eqb-true (length salt) (salt_bytes f) h)

pub once : (form : Bool) (rest left size : ℕ) {n : ℕ} → n ≡ cond form (cond (eqb rest 0) (left / size) 0) 0 → 0 < n → (rest ≡ 0) × (n * size ≤ left)
once false rest left size e h = absurd (omega arith)
once true rest left size e h = by (eqb rest 0) refl e h
  where
    by : (t : Bool) → eqb rest 0 ≡ t → {n : ℕ} → n ≡ cond t (left / size) 0 → 0 < n → (rest ≡ 0) × (n * size ≤ left)
    by true e q h = (eqb-true rest 0 e, rw q (div-mul-le_self left size))
    by false e q h = absurd (omega arith)

-- a block's size
pub sized : (f : Family) {size : ℕ} → size ≡ block_bytes f → (0 < size) × (size ≤ 128)
sized f e = (omega (arith, e, block_pos f), omega (arith, e, block_max f))

-- n blocks that are taken at once behind i of the bytes
pub runs : (form : Bool) (rest : ℕ) {len i : ℕ} → i ≤ len → (f : Family) {size n : ℕ} → size ≡ block_bytes f → n ≡ cond form (cond (eqb rest 0) ((len - i) / size) 0) 0 → 0 < n
    → (rest ≡ 0) × (i + n * size ≤ len) × (n ≤ n * size)
runs form rest {len} {i} g f {size} {n} e q h =
    let w = once form rest (len - i) size q h in
    (w.0, omega (arith, w.1, g), le-mul_of_pos_right n (sized f e).0)

-- n bytes that are taken into a block with room behind rest, of those from place i on
pub taken : {len i rest size b n : ℕ} → n ≡ min (size - rest) (len - i) → i < len → rest < b → size ≡ b → (0 < n) × (i + n ≤ len) × (rest + n ≤ size)
taken q h g e = omega (arith, q, h, g, e)
