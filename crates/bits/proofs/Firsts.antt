-- The first bits of a list of bytes: how many bytes they have, and that they are whole bytes where m is a multiple of 8.
use mathlib.Core.Path.{◌≡◌}
use mathlib.Core.List.{List}
use Prim.Native.Nat.{ℕ, ◌/◌, ◌%◌, ◌≤◌}
use native.Mathlib.Omega.{arith}
use lib.ListN.{length, take, length-set}
use lib.Seq.{length-take-le, take-set-le}
use Rattle.bits.specs.Bits.{digest_bytes, kept, first_bits}

pub first_length : (m : ℕ) (xs : List ℕ) → digest_bytes m ≤ length xs → length (first_bits m xs) ≡ digest_bytes m
unfolding first_bits kept
first_length m xs h = length-take-le (digest_bytes m) _ (rw length-set h)

pub first_whole : (m : ℕ) (xs : List ℕ) → m % 8 ≡ 0 → first_bits m xs ≡ take (m / 8) xs
unfolding first_bits kept
first_whole m xs h =
    let e : digest_bytes m ≡ m / 8 = omega arith in
    rw e (take-set-le (m / 8) xs (m / 8) _ (omega arith))
