-- A message's blocks as bits: joined they are the padded message, and each has the family's size.
use mathlib.Core.Path.{◌≡◌}
use mathlib.Core.Bool.{true}
use mathlib.Core.List.{List, [], ◌∷◌, ◌++◌, append_assoc, append-nil}
use Prim.Native.Nat.{ℕ, zero, suc, ◌+◌, ◌-◌, ◌*◌, ◌/◌, ◌≤◌, ◌<◌}
use native.Mathlib.Omega.{arith}
use native.Mathlib.Nat.{mul-mod_left}
use lib.ListN.{length, take, drop, replicate, length-append, length-drop, replicate-append-replicate, take-append-drop}
use lib.Seq.{take-add, length-take-le}
use Rattle.family.specs.declared.Family.{Family}
use Rattle.family.specs.Family.{block_bytes, length_bytes, length_place}
use Rattle.family.proofs.Sizes.{limit_place, sizes}
use Rattle.fields.specs.Fields.{le}
use Rattle.fields.proofs.Numbers.{le_length}
use Rattle.bits.specs.Bits.{last_fits, marked}
use Rattle.bits.specs.Message.{Message, message_of, bit_length}
use Rattle.bits.proofs.Fitting.{at_most_7}
use Rattle.state.specs.Bytes.{fill}
use Rattle.state.proofs.Filling.{fill_length, fill_nil}
use Rattle.finishing.specs.Blocks.{whole_blocks, last_block, last_blocks, blocks_of}
use Rattle.finishing.proofs.Blocking.{rest_small, rest_split}
use Rattle.finishing.proofs.Endings.{last_cases}
use Rattle.bit_lists.specs.BitLists.{bits_of, message_bits, blocks_joined, Divided, Padded}
use Rattle.bit_lists.proofs.Bytes.{marked_bits, bits_append, bits_zeros}

-- ---- the blocks one behind the other, as bytes

whole_joined : (n b d : ℕ) (xs : List ℕ) (l : List (ℕ × List ℕ)) → blocks_joined (whole_blocks n b d xs ++ l) ≡ take (n * b) xs ++ blocks_joined l
unfolding whole_blocks blocks_joined
whole_joined zero b d xs l =
    let z : 0 * b ≡ 0 = omega arith in
    rw z
whole_joined (suc n) b d xs l =
    let e : suc n * b ≡ b + n * b = omega arith in
    rw (e, take-add, whole_joined n b (d + b) (drop b xs) l, append_assoc)

-- blocks that, joined, are a message's bytes, the byte that the 1 bit stands in, zeros and the two lengths
record Ended (f : Family) (m bits : ℕ) (x : Message) (l : List (ℕ × List ℕ)) : Type 0 where
  zeros : ℕ
  few : zeros < block_bytes f
  blocks : ℕ
  size : length x.bytes + 1 + zeros + (length_bytes f + 2) ≡ blocks * block_bytes f
  is : blocks_joined l ≡ x.bytes ++ (marked x.last ∷ (replicate zeros 0 ++ (le (length_bytes f) bits ++ le 2 m)))

-- xs and the byte behind it, filled up
filled : (k : ℕ) (xs : List ℕ) (x : ℕ) → fill k (xs ++ (x ∷ [])) ≡ xs ++ (x ∷ replicate (k - (length xs + 1)) 0)
unfolding fill
filled k xs x = rw (append_assoc, length-append)

last_ended : (f : Family) (m bits : ℕ) (rest : Message) → rest.last.count ≤ 7 → length rest.bytes < block_bytes f
    → Ended f m bits rest (last_blocks f m bits rest)
unfolding blocks_joined last_block
last_ended f m bits rest few small =
    let r = length rest.bytes in
    last_cases (Ended f m bits rest) f m bits rest
    (λ h. record {
      zeros = length_place f - (r + 1);
      few = omega (arith, sizes f, limit_place f);
      blocks = 1;
      size = omega (arith, sizes f, limit_place f);
      is = simp (filled, append-nil, append_assoc);
    })
    (λ h. record {
      zeros = block_bytes f - (r + 1) + length_place f;
      few = omega (arith, sizes f, limit_place f);
      blocks = 2;
      size = omega (arith, sizes f, limit_place f);
      is = simp (filled, fill_nil, append-nil, ← replicate-append-replicate, append_assoc);
    })

message_ended : (f : Family) (m : ℕ) (x : Message) → x.last.count ≤ 7 → Ended f m (bit_length x) x (blocks_of f m x)
unfolding blocks_of
message_ended f m x few =
    let b = block_bytes f in
    let xs = x.bytes in
    let n = length xs / b in
    let e = last_ended f m (bit_length x) (message_of (drop (n * b) xs) x.last) few (rest_small f xs) in
    record {
      zeros = e.zeros;
      few = e.few;
      blocks = n + e.blocks;
      size = omega (arith, rest_split b xs);
      is = rw (whole_joined n b 0 xs, e.is, ← append_assoc (take (n * b) xs), take-append-drop);
    }

-- ---- as bits

-- The padding is the source's: a single bit of 1, as many 0 bits as needed, the message length, the digest length.
pub padding_bits : (f : Family) (m : ℕ) (x : Message) → last_fits x.last ≡ true → x.last.byte < 256 → Padded f m x
unfolding bits_of message_bits
padding_bits f m x h l =
    let c = x.last.count in
    let few = at_most_7 x.last h in
    let e = message_ended f m x few in
    let total : bit_length x + 1 + (7 - c + 8 * e.zeros) + (8 * length_bytes f + 16) ≡ e.blocks * (8 * block_bytes f) = omega arith in
    record {
      zeros = 7 - c + 8 * e.zeros;
      fewest = omega arith;
      place = rw total (mul-mod_left e.blocks (8 * block_bytes f));
      is = rw e.is (simp (bits_append, bits_zeros, marked_bits x.last h l, ← replicate-append-replicate, append_assoc));
    }

-- ---- the blocks' size

whole_divided : (n b d : ℕ) (xs : List ℕ) (l : List (ℕ × List ℕ)) → n * b ≤ length xs → Divided (8 * b) l → Divided (8 * b) (whole_blocks n b d xs ++ l)
unfolding whole_blocks Divided
whole_divided zero b d xs l h t = t
whole_divided (suc n) b d xs l h t =
    (rw (length-take-le b xs (omega arith)), whole_divided n b (d + b) (drop b xs) l (simp length-drop (omega arith)) t)

last_length : (f : Family) (m bits : ℕ) (xs : List ℕ) → length xs ≤ length_place f → length (last_block f m bits xs) ≡ block_bytes f
unfolding last_block
last_length f m bits xs h = simp (length-append, fill_length, le_length) (omega (arith, sizes f))

last_divided : (f : Family) (m bits : ℕ) (rest : Message) → length rest.bytes < block_bytes f → Divided (8 * block_bytes f) (last_blocks f m bits rest)
unfolding Divided
last_divided f m bits rest small =
    let xs = rest.bytes ++ (marked rest.last ∷ []) in
    let r : length xs ≡ length rest.bytes + 1 = length-append rest.bytes (marked rest.last ∷ []) in
    last_cases (Divided (8 * block_bytes f)) f m bits rest
    (λ h. (rw (last_length f m bits xs (omega (arith, limit_place f))), tt))
    (λ h. (rw (fill_length (block_bytes f) xs (omega arith)), (rw (last_length f m bits [] (omega arith)), tt)))

-- Each block has the family's size.
pub blocks_divided : (f : Family) (m : ℕ) (x : Message) → Divided (8 * block_bytes f) (blocks_of f m x)
unfolding blocks_of
blocks_divided f m x =
    let b = block_bytes f in
    let xs = x.bytes in
    let n = length xs / b in
    whole_divided n b 0 xs _ (omega (arith, rest_split b xs)) (last_divided f m (bit_length x) (message_of (drop (n * b) xs) x.last) (rest_small f xs))
