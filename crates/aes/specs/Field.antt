-- The field GF(2^8) modulo x^8 + x^4 + x^3 + x + 1 (FIPS 197, section 4): the bits of a byte are a polynomial's coefficients, and addition is xor.
use Rattle.std.specs.Prelude.{ℕ, zero, suc, ◌*◌, ◌/◌, ◌%◌}
use Rattle.std.specs.Int.Bits.{bit_xor}

-- FIPS 197, 4.2.1: multiplication by x is a left shift and a subsequent conditional xor with {1b}, which is x^8 modulo the modulus.
abbrev pub xtime_of : ℕ → ℕ
xtime_of b = bit_xor (b * 2 % 256) (b / 128 * 0x1B)

-- b is added where the bit is 1.
abbrev pub add_if : ℕ → ℕ → ℕ → ℕ
add_if zero b sum = sum
add_if (suc n) b sum = bit_xor sum b

-- FIPS 197, 4.2.1: multiplication by any byte is repeated multiplication by x and adding: here over the lowest n bits of a, the highest of them first.
abbrev pub mul_bits : ℕ → ℕ → ℕ → ℕ
mul_bits zero a b = 0
mul_bits (suc n) a b = add_if (a % 2) b (xtime_of (mul_bits n (a / 2) b))

-- FIPS 197, 4.2: the product of two bytes.
abbrev pub mul : ℕ → ℕ → ℕ
mul a b = mul_bits 8 a b

abbrev pub square : ℕ → ℕ
square a = mul a a

-- a to the power 2 ^ n - 1
abbrev pub power : ℕ → ℕ → ℕ
power zero a = 1
power (suc n) a = mul (square (power n a)) a

-- The inverse is the power 254, since the 255 bytes other than 0 are a group; 0 is its own inverse.
abbrev pub inverse : ℕ → ℕ
inverse a = square (power 7 a)
