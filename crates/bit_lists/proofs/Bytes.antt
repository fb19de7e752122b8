-- The bits of bytes: of a byte's first bits, of the byte that the 1 bit stands in, and of lists.
use mathlib.Core.Path.{◌≡◌, refl}
use mathlib.Core.Bool.{Bool, true, false}
use mathlib.Core.List.{List, [], ◌∷◌, ◌++◌, append_assoc}
use Prim.Native.Nat.{ℕ, zero, suc, ◌+◌, ◌-◌, ◌*◌, ◌/◌, ◌%◌, ◌<◌}
use native.Mathlib.Omega.{arith}
use lib.Dec.{T}
use lib.ListN.{length, take, replicate, length-replicate, length-append, replicate-append-replicate}
use Rattle.sbox.proofs.Table.{every, at}
use Rattle.fields.specs.Fields.{same}
use Rattle.fields.proofs.Comparing.{same_equal}
use Rattle.bits.specs.declared.LastBits.{LastBits}
use Rattle.bits.specs.Bits.{high_bits, last_fits, marked}
use Rattle.bits.proofs.Fitting.{at_most_7, unused_zero}
use Rattle.bit_lists.specs.BitLists.{bits_of_byte, bits_of}

-- Two lists made of a count below 8 and a byte: they are the same at all 2048 pairs by one test that antt computes.
module _ (f g : ℕ → ℕ → List ℕ) where
  agree : ℕ → ℕ → Bool
  agree j z = same (f (j / 256) (j % 256)) (g (j / 256) (j % 256))

  everywhere : T (every agree 0 (replicate 2048 0)) → (k x : ℕ) → k < 8 → x < 256 → f k x ≡ g k x
  unfolding agree
  everywhere t k x hk hx =
      let j = 256 * k + x in
      let count : j / 256 ≡ k = omega arith in
      let byte : j % 256 ≡ x = omega arith in
      by (f k x) (g k x) _ refl (rw (count, byte) at (at agree (replicate 2048 0) t j (rw length-replicate (omega arith))))
    where
      by : (xs ys : List ℕ) (t : Bool) → same xs ys ≡ t → T t → xs ≡ ys
      by xs ys true e t = same_equal xs ys e
      by xs ys false e t = absurd t

-- The first k bits of a byte, and zeros.
pub high_bits_lem : (k x : ℕ) → k < 8 → x < 256 → bits_of_byte (high_bits k x) ≡ take k (bits_of_byte x) ++ replicate (8 - k) 0
unfolding agree same bits_of_byte high_bits
high_bits_lem k x hk hx = everywhere (λ k x. bits_of_byte (high_bits k x)) (λ k x. take k (bits_of_byte x) ++ replicate (8 - k) 0) tt k x hk hx

-- the first k bits of a byte and the 1 bit behind them, whatever its other bits
first_marked : (k x : ℕ) → k < 8 → x < 256
    → bits_of_byte (marked (record { byte = high_bits k x; count = k })) ≡ take k (bits_of_byte x) ++ (1 ∷ replicate (7 - k) 0)
unfolding agree same bits_of_byte high_bits marked
first_marked k x hk hx =
    everywhere (λ k x. bits_of_byte (marked (record { byte = high_bits k x; count = k }))) (λ k x. take k (bits_of_byte x) ++ (1 ∷ replicate (7 - k) 0)) tt k x hk hx

-- The last bits of a message, then a single bit of 1, then zeros.
pub marked_bits : (b : LastBits) → last_fits b ≡ true → b.byte < 256
    → bits_of_byte (marked b) ≡ take b.count (bits_of_byte b.byte) ++ (1 ∷ replicate (7 - b.count) 0)
unfolding high_bits
marked_bits b h l =
    let e : high_bits b.count b.byte ≡ b.byte = omega (arith, unused_zero b h) in
    rw e at (first_marked b.count b.byte (omega (arith, at_most_7 b h)) l)

pub byte_length : (x : ℕ) → length (bits_of_byte x) ≡ 8
unfolding bits_of_byte
byte_length x = refl

-- ---- the bits of lists

pub bits_append : (xs ys : List ℕ) → bits_of (xs ++ ys) ≡ bits_of xs ++ bits_of ys
unfolding bits_of
bits_append [] ys = refl
bits_append (x ∷ xs) ys = rw (bits_append xs ys, append_assoc)

pub bits_zeros : (n : ℕ) → bits_of (replicate n 0) ≡ replicate (8 * n) 0
unfolding bits_of bits_of_byte
bits_zeros zero = refl
bits_zeros (suc n) =
    let e : 8 * suc n ≡ 8 + 8 * n = omega arith in
    rw (e, bits_zeros n, ← (replicate-append-replicate {A = ℕ} 8 (8 * n) 0))

pub bits_length : (xs : List ℕ) → length (bits_of xs) ≡ 8 * length xs
unfolding bits_of
bits_length [] = refl
bits_length (x ∷ xs) = simp length-append (omega (arith, byte_length x, bits_length xs))
