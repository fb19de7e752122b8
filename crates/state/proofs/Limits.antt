-- The limit in bits is the limit in whole bytes, whatever last bits there are: no message of 2^61 - 1 bytes and 7 bits is too long.
use Prim.Native.Nat.{ℕ, ◌+◌, ◌*◌, ◌≤◌}
use native.Mathlib.Omega.{arith}
use Rattle.state.specs.State.{bit_limit, limit}

pub bits_within : (n c : ℕ) → n ≤ limit → c ≤ 7 → 8 * n + c ≤ bit_limit
bits_within n c h g = omega arith

pub within_bits : (n c : ℕ) → 8 * n + c ≤ bit_limit → n ≤ limit
within_bits n c h = omega arith
