-- Whole blocks of a list, and the chain over a list of (counter, block).
use mathlib.Core.Path.{◌≡◌, refl, ap, ◌∙◌}
use mathlib.Core.Bool.{true}
use mathlib.Core.List.{List, [], ◌∷◌, ◌++◌}
use Prim.Native.Nat.{ℕ, zero, suc, ◌+◌, ◌-◌, ◌*◌, ◌/◌, ◌%◌, ◌≤◌, ◌<◌}
use native.Mathlib.Omega.{arith}
use native.Mathlib.Nat.{zero-add, suc-add, div-add-mod', mod-lt}
use native.Mathlib.Numerals.{add-one}
use lib.ListN.{length, take, drop, length-drop}
use lib.Seq.{drop-append-le, take-append-le, drop-drop}
use Rattle.family.specs.declared.Family.{Family}
use Rattle.family.specs.Family.{block_bytes, chain_words}
use Rattle.counter.specs.Counter.{counter_of}
use Rattle.compress.specs.Compression.{compress_of}
use Rattle.compress.proofs.Compressed.{compress_length, compress_zero}
use Rattle.state.specs.Bytes.{all_zero}
use Rattle.finishing.specs.Blocks.{whole_blocks, chain_over}
use Rattle.family.proofs.Sizes.{block_pos}
use Rattle.state.proofs.Filling.{zero_list}

-- blocks look only at their own bytes
pub whole_blocks_more : (n b d : ℕ) (xs ys : List ℕ) → n * b ≤ length xs → whole_blocks n b d (xs ++ ys) ≡ whole_blocks n b d xs
unfolding whole_blocks
whole_blocks_more zero b d xs ys h = refl
whole_blocks_more (suc n) b d xs ys h =
    let hb : b ≤ length xs = omega arith in
    let hn : n * b ≤ length (drop b xs) = simp length-drop (omega arith) in
    rw (take-append-le b xs ys hb, drop-append-le b xs ys hb, whole_blocks_more n b (d + b) (drop b xs) ys hn)

-- n blocks, then k
pub whole_blocks_add : (n k b d : ℕ) (xs : List ℕ) → whole_blocks (n + k) b d xs ≡ whole_blocks n b d xs ++ whole_blocks k b (d + n * b) (drop (n * b) xs)
unfolding whole_blocks
whole_blocks_add zero k b d xs =
    let z : 0 * b ≡ 0 = omega arith in
    let e : d + 0 ≡ d = omega arith in
    rw (zero-add, z, e)
whole_blocks_add (suc n) k b d xs =
    let e : d + b + n * b ≡ d + suc n * b = omega arith in
    let z : b + n * b ≡ suc n * b = omega arith in
    rw (suc-add, whole_blocks_add n k b (d + b) (drop b xs), drop-drop (n * b) b xs, e, z)

pub whole_blocks_last : (n b d : ℕ) (xs : List ℕ) → whole_blocks (suc n) b d xs ≡ whole_blocks n b d xs ++ ((8 * (d + suc n * b), take b (drop (n * b) xs)) ∷ [])
unfolding whole_blocks
whole_blocks_last n b d xs =
    let e : d + suc n * b ≡ d + n * b + b = omega arith in
    rw e (rw add-one at (whole_blocks_add n 1 b d xs))

pub whole_blocks_length : (n b d : ℕ) (xs : List ℕ) → length (whole_blocks n b d xs) ≡ n
unfolding whole_blocks
whole_blocks_length zero b d xs = refl
whole_blocks_length (suc n) b d xs = ap suc (whole_blocks_length n b (d + b) (drop b xs))

-- the bytes in no whole block
pub rest_length : (b : ℕ) (xs : List ℕ) → length (drop (length xs / b * b) xs) ≡ length xs % b
rest_length b xs =
    let e = div-add-mod' (length xs) b in
    simp length-drop (omega arith)

pub rest_small : (f : Family) (xs : List ℕ) → length (drop (length xs / block_bytes f * block_bytes f) xs) < block_bytes f
rest_small f xs = rw rest_length (mod-lt (length xs) (block_pos f))

pub rest_split : (b : ℕ) (xs : List ℕ) → length xs / b * b + length (drop (length xs / b * b) xs) ≡ length xs
rest_split b xs = rw rest_length (div-add-mod' (length xs) b)

module _ (f : Family) (salt : List ℕ) where
  pub chain_over_append : (xs ys : List (ℕ × List ℕ)) (c : List ℕ) → chain_over f salt (xs ++ ys) c ≡ chain_over f salt ys (chain_over f salt xs c)
  unfolding chain_over
  chain_over_append [] ys c = refl
  chain_over_append (x ∷ xs) ys c = chain_over_append xs ys _

  pub chain_over_last : (xs : List (ℕ × List ℕ)) (x : ℕ × List ℕ) (c : List ℕ)
      → chain_over f salt (xs ++ (x ∷ [])) c ≡ compress_of f (chain_over f salt xs c) x.1 (counter_of x.0) salt
  unfolding chain_over
  chain_over_last xs x c = chain_over_append xs (x ∷ []) c

  pub chain_length : (xs : List (ℕ × List ℕ)) (c : List ℕ) → length c ≡ 16 → length (chain_over f salt xs c) ≡ 16
  unfolding chain_over
  chain_length [] c h = h
  chain_length (x ∷ xs) c h = chain_length xs _ (compress_length f c x.1 (counter_of x.0) salt)

  -- the words past the family's chain stay zero
  pub chain_zero : (xs : List (ℕ × List ℕ)) (c : List ℕ) → all_zero (drop (chain_words f) c) ≡ true → all_zero (drop (chain_words f) (chain_over f salt xs c)) ≡ true
  unfolding chain_over
  chain_zero [] c h = h
  chain_zero (x ∷ xs) c h = chain_zero xs _ (ap all_zero (compress_zero f c x.1 (counter_of x.0) salt) ∙ zero_list (16 - chain_words f))
