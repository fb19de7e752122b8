-- Bits tell a message: two messages that fit have the same bits only where they are the same.
use mathlib.Core.Path.{◌≡◌, refl, ap, ap₂, sym, ◌∙◌}
use mathlib.Core.Bool.{Bool, true}
use mathlib.Core.List.{List, [], ◌∷◌, ◌++◌}
use Prim.Native.Nat.{ℕ, suc, ◌+◌, ◌-◌, ◌*◌, ◌<◌}
use native.Mathlib.Omega.{arith}
use lib.Dec.{eqb, eqb→eq}
use lib.ListN.{length, get_or, take, drop, replicate, length-append, length-replicate}
use lib.Seq.{length-take-le, take_at, drop_at}
use Rattle.sbox.proofs.Table.{at}
use Rattle.fields.proofs.Numbers.{bytes}
use Rattle.bits.specs.declared.LastBits.{LastBits}
use Rattle.bits.specs.Bits.{high_bits, last_fits}
use Rattle.bits.specs.Message.{Message, message_of, bit_length}
use Rattle.bits.proofs.Fitting.{at_most_7, unused_zero}
use Rattle.bit_lists.specs.BitLists.{bits_of_byte, bits_of, message_bits}
use Rattle.bit_lists.proofs.Bytes.{high_bits_lem, byte_length, bits_length}

-- the byte of eight bits
byte_of : List ℕ → ℕ
byte_of l = 128 * get_or l 0 0 + 64 * get_or l 1 0 + 32 * get_or l 2 0 + 16 * get_or l 3 0 + 8 * get_or l 4 0 + 4 * get_or l 5 0 + 2 * get_or l 6 0 + get_or l 7 0

reads : ℕ → ℕ → Bool
reads x z = eqb (byte_of (bits_of_byte x)) x

-- read back, at all 256 bytes by one test that antt computes
byte_read : (x : ℕ) (l : List ℕ) → x < 256 → byte_of (bits_of_byte x ++ l) ≡ x
unfolding byte_of bits_of_byte reads
byte_read x l h = eqb→eq (byte_of (bits_of_byte x)) x (at reads (replicate 256 0) tt x (rw length-replicate h))

-- bytes told by their bits, where there are as many
bytes_told : (xs ys : List ℕ) → bytes xs → bytes ys → length xs ≡ length ys → bits_of xs ≡ bits_of ys → xs ≡ ys
unfolding bits_of
bytes_told [] [] b c n e = refl
bytes_told [] (y ∷ ys) b c n e = absurd (omega arith)
bytes_told (x ∷ xs) [] b c n e = absurd (omega arith)
bytes_told (x ∷ xs) (y ∷ ys) b c n e =
    let first : x ≡ y = sym (byte_read x (bits_of xs) (b 0)) ∙ ap byte_of e ∙ byte_read y (bits_of ys) (c 0) in
    let rest : bits_of xs ≡ bits_of ys =
    sym (drop_at (bits_of_byte x) (bits_of xs) 8 (byte_length x)) ∙ ap (drop 8) e ∙ drop_at (bits_of_byte y) (bits_of ys) 8 (byte_length y) in
    ap₂ (λ (z : ℕ) (zs : List ℕ). z ∷ zs) first (bytes_told xs ys (λ i. b (suc i)) (λ i. c (suc i)) (omega arith) rest)

-- last bits that fit are those that are used, and zeros
used : (b : LastBits) → last_fits b ≡ true → b.byte < 256 → bits_of_byte b.byte ≡ take b.count (bits_of_byte b.byte) ++ replicate (8 - b.count) 0
unfolding high_bits
used b h l =
    let e : high_bits b.count b.byte ≡ b.byte = omega (arith, unused_zero b h) in
    rw e at (high_bits_lem b.count b.byte (omega (arith, at_most_7 b h)) l)

-- A message's bits are as many as its length says.
pub message_length : (x : Message) → last_fits x.last ≡ true → length (message_bits x) ≡ bit_length x
unfolding message_bits
message_length x h =
    let few = at_most_7 x.last h in
    let bits = bits_of_byte x.last.byte in
    let last : length (take x.last.count bits) ≡ x.last.count = length-take-le x.last.count bits (omega (arith, byte_length x.last.byte)) in
    omega (arith, length-append (bits_of x.bytes) (take x.last.count bits), bits_length x.bytes)

-- what a message that fits is made of: bytes
pub record OfBytes (x : Message) : Type 0 where
  pub whole : bytes x.bytes
  pub last : x.last.byte < 256
  pub fits : last_fits x.last ≡ true

-- Two messages with the same bits are the same message.
pub same_message : (x y : Message) → OfBytes x → OfBytes y → message_bits x ≡ message_bits y → x ≡ y
unfolding message_bits
same_message x y a b e =
    let n : bit_length x ≡ bit_length y = sym (message_length x a.fits) ∙ ap length e ∙ message_length y b.fits in
    let few = at_most_7 x.last a.fits in
    let few' = at_most_7 y.last b.fits in
    let count : x.last.count ≡ y.last.count = omega arith in
    let size : length x.bytes ≡ length y.bytes = omega arith in
    let bits = bits_of x.bytes in
    let bits' = bits_of y.bytes in
    let u = take x.last.count (bits_of_byte x.last.byte) in
    let v = take y.last.count (bits_of_byte y.last.byte) in
    let k = 8 * length x.bytes in
    let l : length bits ≡ k = bits_length x.bytes in
    let l' : length bits' ≡ k = omega (arith, bits_length y.bytes) in
    let whole : x.bytes ≡ y.bytes =
    bytes_told x.bytes y.bytes a.whole b.whole size (sym (take_at bits u k l) ∙ ap (take k) e ∙ take_at bits' v k l') in
    let last : u ≡ v = sym (drop_at bits u k l) ∙ ap (drop k) e ∙ drop_at bits' v k l' in
    let filled : u ++ replicate (8 - x.last.count) 0 ≡ v ++ replicate (8 - y.last.count) 0 =
    ap₂ (λ (l : List ℕ) (c : ℕ). l ++ replicate (8 - c) 0) last count in
    let same : bits_of_byte x.last.byte ≡ bits_of_byte y.last.byte =
    used x.last a.fits a.last ∙ filled ∙ sym (used y.last b.fits b.last) in
    let byte : x.last.byte ≡ y.last.byte =
    sym (byte_read x.last.byte [] a.last) ∙ ap (λ (z : List ℕ). byte_of (z ++ [])) same ∙ byte_read y.last.byte [] b.last in
    λ i. message_of (whole i) (record { byte = byte i; count = count i })
