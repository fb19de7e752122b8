-- What both families' numbers have in common.
use mathlib.Core.Path.{◌≡◌, refl}
use Prim.Native.Nat.{ℕ, ◌+◌, ◌*◌, ◌/◌, ◌≤◌, ◌<◌}
use native.Mathlib.Omega.{arith}
use Rattle.family.specs.declared.Family.{Family}
use Rattle.family.specs.declared.Family.TheVariants.{Small, Large}
use Rattle.family.specs.Family.{block_bytes, block_words, near_distance, salt_quads, runs, expanded_words}

pub record Numbers (f : Family) : Type 0 where
  pub groups : 4 * (block_words f / 4) ≡ block_words f
  pub words : 4 * block_words f ≡ block_bytes f
  pub low : 16 ≤ block_words f
  pub high : block_words f ≤ 32
  pub near : 0 < near_distance f
  pub nearer : near_distance f ≤ block_words f
  pub quad : 0 < salt_quads f
  pub quads : salt_quads f ≤ 4
  pub most : runs f ≤ 13
  pub expanded : expanded_words f ≡ block_words f * (runs f + 1)
  pub all : expanded_words f ≤ expanded_words Large

pub numbers : (f : Family) → Numbers f
numbers Small = record {
  groups = refl;
  words = refl;
  low = omega arith;
  high = omega arith;
  near = omega arith;
  nearer = omega arith;
  quad = omega arith;
  quads = omega arith;
  most = omega arith;
  expanded = refl;
  all = omega arith;
}
numbers Large = record {
  groups = refl;
  words = refl;
  low = omega arith;
  high = omega arith;
  near = omega arith;
  nearer = omega arith;
  quad = omega arith;
  quads = omega arith;
  most = omega arith;
  expanded = refl;
  all = omega arith;
}

-- where a run starts
pub run_start : (f : Family) (r : ℕ) → block_words f * (r + 1) + block_words f ≤ expanded_words Large → (block_words f ≤ block_words f * (r + 1)) × (r < expanded_words Large)
run_start Small r h = (omega arith, omega arith)
run_start Large r h = (omega arith, omega arith)

-- every run is inside the expanded words
pub run_inside : (f : Family) (r : ℕ) → r < runs f → block_words f * (r + 1) + block_words f ≤ expanded_words f
run_inside Small r h = omega arith
run_inside Large r h = omega arith

pub block_first : (f : Family) → block_words f ≤ expanded_words f
block_first Small = omega arith
block_first Large = omega arith
