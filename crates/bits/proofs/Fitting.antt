-- What the test of last bits says, and that bits which fit leave a byte's place for the 1 bit behind them.
use mathlib.Core.Path.{◌≡◌, refl}
use mathlib.Core.Bool.{true}
use Prim.Native.Nat.{ℕ, zero, suc, ◌+◌, ◌%◌, ◌≤◌, ◌<◌}
use native.Mathlib.Omega.{arith}
use lib.Dec.{eqb, leb}
use borrow.Author.Tests.{leb-true, eqb-true}
use Rattle.answers.proofs.Tests.{and_left, and_right}
use Rattle.bits.specs.declared.LastBits.{LastBits}
use Rattle.bits.specs.Bits.{weight, no_bits, last_fits, marked}

module _ (b : LastBits) (h : last_fits b ≡ true) where
  pub at_most_7 : b.count ≤ 7
  unfolding last_fits
  at_most_7 = leb-true b.count 7 (and_left (leb b.count 7) (eqb (b.byte % weight b.count) 0) h)

  pub unused_zero : b.byte % weight b.count ≡ 0
  unfolding last_fits
  unused_zero = eqb-true (b.byte % weight b.count) 0 (and_right (leb b.count 7) (eqb (b.byte % weight b.count) 0) h)

-- by the count: bits that fit are a multiple of the last one's weight, and the 1 bit weighs half of that
room : (x k : ℕ) → x < 256 → k ≤ 7 → x % weight k ≡ 0 → x + weight (k + 1) < 256
room x zero l h e = omega arith
room x (suc zero) l h e = omega arith
room x (suc (suc zero)) l h e = omega arith
room x (suc (suc (suc zero))) l h e = omega arith
room x (suc (suc (suc (suc zero)))) l h e = omega arith
room x (suc (suc (suc (suc (suc zero))))) l h e = omega arith
room x (suc (suc (suc (suc (suc (suc zero)))))) l h e = omega arith
room x (suc (suc (suc (suc (suc (suc (suc zero))))))) l h e = omega arith
room x (suc (suc (suc (suc (suc (suc (suc (suc k)))))))) l h e = absurd (omega arith)

pub marked_byte : (b : LastBits) → last_fits b ≡ true → b.byte < 256 → marked b < 256
unfolding marked
marked_byte b h l = room b.byte b.count l (at_most_7 b h) (unused_zero b h)

-- A message of whole bytes: nothing is unfit, and no bit is counted.
pub none_fits : last_fits no_bits ≡ true
unfolding last_fits no_bits
none_fits = refl

pub none_count : no_bits.count ≡ 0
unfolding no_bits
none_count = refl
