-- Bytes: an S-box entry, and a product in the field.
use mathlib.Core.List.{List, [], ◌∷◌}
use Prim.Native.Nat.{ℕ, zero, suc, ◌*◌, ◌/◌, ◌%◌, ◌<◌}
use native.Mathlib.Omega.{arith}
use lib.Dec.{ltb, ltb→lt}
use lib.ListN.{length, get_or}
use lib.Bits.{xor_lt}
use Rattle.sbox.specs.Sbox.{sbox_table, sbox_of}
use Rattle.sbox.proofs.Table.{at}
use Rattle.aes.specs.Field.{xtime_of, add_if, mul_bits, mul}

-- what holds of a list's entries and of the value past them holds at every place
list_all : {A : Type 0} (P : A → Type 0) (z : A) → P z → (xs : List A) → ((i : ℕ) → i < length xs → P (get_or xs i z)) → (i : ℕ) → P (get_or xs i z)
list_all P z pz [] h i = pz
list_all P z pz (x ∷ xs) h zero = h 0 (omega arith)
list_all P z pz (x ∷ xs) h (suc i) = list_all P z pz xs (λ j l. h (suc j) (omega arith)) i

pub sbox_byte : (x : ℕ) → sbox_of x < 256
unfolding sbox_of sbox_table
sbox_byte = list_all (λ x. x < 256) 0 (omega arith) sbox_table (λ i h. ltb→lt (get_or sbox_table i 0) 256 (at (λ k x. ltb x 256) sbox_table tt i h))

pub xtime_byte : (x : ℕ) → x < 256 → xtime_of x < 256
xtime_byte x h = xor_lt 8 (x * 2 % 256) (x / 128 * 0x1B) (omega arith) (omega arith)

add_byte : (n b sum : ℕ) → b < 256 → sum < 256 → add_if n b sum < 256
add_byte zero b sum hb hs = hs
add_byte (suc n) b sum hb hs = xor_lt 8 sum b hs hb

bits_byte : (n a b : ℕ) → b < 256 → mul_bits n a b < 256
bits_byte zero a b h = omega arith
bits_byte (suc n) a b h = add_byte (a % 2) b _ h (xtime_byte _ (bits_byte n (a / 2) b h))

pub mul_byte : (a b : ℕ) → b < 256 → mul a b < 256
mul_byte a b h = bits_byte 8 a b h
