-- The family's numbers: all that the other laws know of them.
use mathlib.Core.Path.{◌≡◌}
use Prim.Native.Nat.{◌+◌, ◌*◌, ◌≤◌, ◌<◌}
use native.Mathlib.Omega.{arith}
use Rattle.family.specs.declared.Family.{Family}
use Rattle.family.specs.declared.Family.TheVariants.{Small, Large}
use Rattle.family.specs.Family.{block_bytes, chain_words, salt_bytes, length_bytes, pad_limit, length_place}

pub block_pos : (f : Family) → 0 < block_bytes f
block_pos Small = omega arith
block_pos Large = omega arith

pub block_max : (f : Family) → block_bytes f ≤ 128
block_max Small = omega arith
block_max Large = omega arith

-- a rest at the limit and the 1 bit behind it end where the length begins
pub limit_place : (f : Family) → pad_limit f + 1 ≡ 8 * length_place f
limit_place Small = omega arith
limit_place Large = omega arith

-- a last block: the rest and its 1 bit, the length, m
pub sizes : (f : Family) → block_bytes f ≡ length_place f + length_bytes f + 2
sizes Small = omega arith
sizes Large = omega arith

pub words_max : (f : Family) → chain_words f ≤ 16
words_max Small = omega arith
words_max Large = omega arith

pub salt_max : (f : Family) → salt_bytes f ≤ 64
salt_max Small = omega arith
salt_max Large = omega arith
