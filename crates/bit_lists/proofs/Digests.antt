-- A digest as bits: the first m of the last chain's, and zeros up to whole bytes.
use mathlib.Core.Path.{◌≡◌, ap, sym, ◌∙◌}
use mathlib.Core.List.{List, [], ◌∷◌, ◌++◌, append_assoc, append-nil}
use Prim.Native.Nat.{ℕ, zero, suc, ◌+◌, ◌-◌, ◌*◌, ◌/◌, ◌%◌, ◌≤◌, ◌<◌}
use native.Mathlib.Omega.{arith}
use native.Mathlib.Decide.{dec_lt}
use lib.ListN.{length, get_or, take, drop, set, replicate, take-append-drop}
use lib.Seq.{length-take-le, take-append-add, take-append-le, drop-cons, take-suc-set}
use Rattle.family.specs.declared.Family.{Family}
use Rattle.fields.specs.Fields.{le, bytes_of}
use Rattle.fields.proofs.Numbers.{bytes, bytes_length}
use Rattle.bits.specs.Bits.{digest_bytes, high_bits, kept, first_bits}
use Rattle.bits.specs.Message.{Message}
use Rattle.bits.proofs.Firsts.{first_whole}
use Rattle.startup.specs.Startup.{start_of}
use Rattle.startup.proofs.Started.{start_length}
use Rattle.finishing.specs.Blocks.{blocks_of, chain_over, digest_of}
use Rattle.finishing.proofs.Blocking.{chain_length}
use Rattle.bit_lists.specs.BitLists.{bits_of_byte, bits_of}
use Rattle.bit_lists.proofs.Bytes.{high_bits_lem, byte_length, bits_append, bits_length}

-- the bits of q bytes, and k more
take_bits : (q k : ℕ) (xs : List ℕ) → q ≤ length xs → take (8 * q + k) (bits_of xs) ≡ bits_of (take q xs) ++ take k (bits_of (drop q xs))
take_bits q k xs h =
    let e : 8 * q ≡ length (bits_of (take q xs)) = omega (arith, bits_length (take q xs), length-take-le q xs h) in
    ap (λ (l : List ℕ). take (8 * q + k) (bits_of l)) (sym (take-append-drop q xs)) ∙ rw (e, bits_append, take-append-add)

-- q bytes and a broken one, of which k bits are left
broken : (q k : ℕ) (xs : List ℕ) → bytes xs → k < 8 → q < length xs
    → bits_of (take (suc q) (set xs q (high_bits k (get_or xs q 0)))) ≡ take (8 * q + k) (bits_of xs) ++ replicate (8 - k) 0
unfolding bits_of
broken q k xs b hk hq =
    let x = get_or xs q 0 in
    let e : k ≤ length (bits_of_byte x) = omega (arith, byte_length x) in
    rw (take-suc-set xs q (high_bits k x) hq, take_bits q k xs (omega arith), drop-cons xs q 0 hq, bits_append, append-nil)
    (rw (take-append-le k (bits_of_byte x) (bits_of (drop (suc q) xs)) e, high_bits_lem k x hk (b q), append_assoc))

-- The first m bits of bytes are the first m of their bits, and zeros.
pub first_bits_lem : (m : ℕ) (xs : List ℕ) → bytes xs → m ≤ 8 * length xs → bits_of (first_bits m xs) ≡ take m (bits_of xs) ++ replicate (8 * digest_bytes m - m) 0
unfolding first_bits kept
first_bits_lem m xs b h = elim (dec_lt 0 (m % 8)) [
  | yes p ↦
      let n : digest_bytes m ≡ suc (m / 8) = omega arith in
      let z : 8 * suc (m / 8) - m ≡ 8 - m % 8 = omega arith in
      let e : 8 * (m / 8) + m % 8 ≡ m = omega arith in
      rw (n, z) (rw e at (broken (m / 8) (m % 8) xs b (omega arith) (omega arith)))
  | no p ↦
      let z : 8 * digest_bytes m - m ≡ 0 = omega arith in
      let e : 8 * (m / 8) + 0 ≡ m = omega arith in
      rw (first_whole m xs (omega arith), z, append-nil) (sym (rw (e, append-nil) at (take_bits (m / 8) 0 xs (omega arith))))
]

-- the bytes of words are bytes
words_bytes : (ws : List ℕ) → bytes (bytes_of ws)
unfolding bytes_of le
words_bytes [] i = omega arith
words_bytes (w ∷ ws) zero = omega arith
words_bytes (w ∷ ws) (suc zero) = omega arith
words_bytes (w ∷ ws) (suc (suc zero)) = omega arith
words_bytes (w ∷ ws) (suc (suc (suc zero))) = omega arith
words_bytes (w ∷ ws) (suc (suc (suc (suc i)))) = words_bytes ws i

-- The digest is the first m bits of the last chain.
pub digest_bits_lem : (f : Family) (m : ℕ) (salt : List ℕ) (x : Message) → m ≤ 512
    → bits_of (digest_of f m salt x) ≡ take m (bits_of (bytes_of (chain_over f salt (blocks_of f m x) (start_of f m)))) ++ replicate (8 * digest_bytes m - m) 0
unfolding digest_of
digest_bits_lem f m salt x h =
    let chain = chain_over f salt (blocks_of f m x) (start_of f m) in
    first_bits_lem m (bytes_of chain) (words_bytes chain) (omega (arith, bytes_length chain, chain_length f salt (blocks_of f m x) (start_of f m) (start_length f m)))
