-- How many bytes a form holds of a block.
use mathlib.Core.List.{List}
use Prim.Native.Nat.{ℕ, ◌≤◌}
use native.Mathlib.Omega.{arith}
use native.Mathlib.Nat.{mod-lt}
use Rattle.loading.specs.Reading.{family_in, covered_in, rest_in}
use Rattle.family.proofs.Sizes.{block_pos, block_max}

pub rest_max : (form : List ℕ) → rest_in form ≤ 128
unfolding rest_in
rest_max form = omega (arith, mod-lt (covered_in form) (block_pos (family_in form)), block_max (family_in form))
