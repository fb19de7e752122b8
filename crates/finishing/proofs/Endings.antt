-- The end of a message's list, and the list's length.
use mathlib.Core.Path.{◌≡◌, refl}
use mathlib.Core.Bool.{Bool, true, false, cond}
use mathlib.Core.List.{List, [], ◌∷◌, ◌++◌}
use Prim.Native.Nat.{ℕ, ◌+◌, ◌*◌, ◌/◌, ◌%◌, ◌≤◌, ◌<◌}
use native.Mathlib.Omega.{arith}
use native.Mathlib.Decide.{dec_lt}
use lib.Dec.{eqb, leb}
use lib.ListN.{length, drop, length-append}
use borrow.Author.Tests.{le-leb, lt-leb}
use Rattle.family.specs.declared.Family.{Family}
use Rattle.family.specs.Family.{block_bytes, pad_limit}
use Rattle.compress.proofs.Compressed.{compress_length}
use Rattle.bits.specs.Bits.{marked}
use Rattle.bits.specs.Message.{Message, message_of, bit_length}
use Rattle.state.specs.Bytes.{fill}
use Rattle.finishing.specs.Blocks.{whole_blocks, last_block, last_blocks, blocks_of, chain_over}
use Rattle.finishing.proofs.Blocking.{whole_blocks_length, rest_length, chain_over_append}

-- The end of a message is one block or two.
pub last_cases : (P : List (ℕ × List ℕ) → Type 0) (f : Family) (m bits : ℕ) (rest : Message)
    → (bit_length rest ≤ pad_limit f → P ((cond (eqb (bit_length rest) 0) 0 bits, last_block f m bits (rest.bytes ++ (marked rest.last ∷ []))) ∷ []))
    → (pad_limit f < bit_length rest → P ((bits, fill (block_bytes f) (rest.bytes ++ (marked rest.last ∷ []))) ∷ (0, last_block f m bits []) ∷ []))
    → P (last_blocks f m bits rest)
unfolding last_blocks
last_cases P f m bits rest one two = elim (dec_lt (pad_limit f) (bit_length rest)) [
  | yes h ↦ rw (lt-leb (bit_length rest) (pad_limit f) h) (two h)
  | no h ↦
      let g : bit_length rest ≤ pad_limit f = omega arith in
      rw (le-leb (bit_length rest) (pad_limit f) g) (one g)
]

pub last_max : (f : Family) (m bits : ℕ) (rest : Message) → length (last_blocks f m bits rest) ≤ 2
last_max f m bits rest = last_cases (λ (l : List (ℕ × List ℕ)). length l ≤ 2) f m bits rest (λ h. omega arith) (λ h. omega arith)

-- The chain over a message has sixteen words, whatever it started from: there is a last block.
pub ended_length : (f : Family) (salt : List ℕ) (m : ℕ) (x : Message) (start : List ℕ) → length (chain_over f salt (blocks_of f m x) start) ≡ 16
unfolding blocks_of chain_over
ended_length f salt m x start =
    let n = length x.bytes / block_bytes f in
    rw (chain_over_append f salt (whole_blocks n (block_bytes f) 0 x.bytes) _ start)
    (last_cases (λ (l : List (ℕ × List ℕ)). length (chain_over f salt l (chain_over f salt (whole_blocks n (block_bytes f) 0 x.bytes) start)) ≡ 16) f m (bit_length x) (message_of (drop (n * block_bytes f) x.bytes) x.last) (λ h. compress_length f _ _ _ salt) (λ h. compress_length f _ _ _ salt))

-- document 01's formula by the bit rule: floor(b/B) + 1 where the bits of the rest are at most the limit, else floor(b/B) + 2
pub count_formula : (f : Family) (m : ℕ) (x : Message)
    → length (blocks_of f m x) ≡ length x.bytes / block_bytes f + cond (leb (8 * (length x.bytes % block_bytes f) + x.last.count) (pad_limit f)) 1 2
unfolding blocks_of last_blocks
count_formula f m x =
    rw (length-append, whole_blocks_length, rest_length) (by (leb (8 * (length x.bytes % block_bytes f) + x.last.count) (pad_limit f)) _ _ _)
  where
    by : (t : Bool) (u v w : ℕ × List ℕ) → length x.bytes / block_bytes f + length (cond t (u ∷ []) (v ∷ w ∷ [])) ≡ length x.bytes / block_bytes f + cond t 1 2
    by true u v w = refl
    by false u v w = refl
