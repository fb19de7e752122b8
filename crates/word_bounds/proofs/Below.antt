-- Every word that the compression functions give is below 2^32: an AES round's from its bytes, the ciphers' and the output's by xor.
use mathlib.Core.List.{List, [], ◌∷◌, ◌++◌}
use Prim.Native.Nat.{ℕ, zero, suc, ◌+◌, ◌*◌, ◌^◌, ◌<◌}
use native.Mathlib.Omega.{arith}
use lib.ListN.{get_or, replicate}
use lib.Bits.{bit_xor, xor_lt}
use Rattle.aes.specs.Round.{cell, aes_round}
use Rattle.word_bounds.proofs.Bytes.{four_all, round_byte}
use Rattle.family.specs.declared.Family.{Family}
use Rattle.family.specs.declared.Family.TheVariants.{Small, Large}
use Rattle.counter.specs.declared.Counter.{Counter}
use Rattle.compress.specs.declared.cipher.Halves.{Halves}
use Rattle.compress.specs.declared.cipher.Quarters.{Quarters}
use Rattle.family.specs.Family.{rounds}
use Rattle.words.specs.Words.{from_bytes, four_at, xor4, column_of, from_column, columns_of, round_of, zero4, times, words_of}
use Rattle.compress.specs.Cipher.{halves_round, quarters_round, inner_of, small_cipher, large_cipher}
use Rattle.compress.specs.Expansion.{expand_of}
use Rattle.compress.specs.Compression.{small_output, large_output, compress_of}
use Rattle.startup.specs.Startup.{master_of, start_of}

abbrev pub Below : List ℕ → Type 0
Below xs = (i : ℕ) → get_or xs i 0 < 2 ^ 32

-- ---- lists
four_below : {a b c d : ℕ} → a < 2 ^ 32 → b < 2 ^ 32 → c < 2 ^ 32 → d < 2 ^ 32 → Below (a ∷ b ∷ c ∷ d ∷ [])
four_below ha hb hc hd = four_all (λ x. x < 2 ^ 32) ha hb hc hd (omega arith)

append_below : (x y : List ℕ) → Below x → Below y → Below (x ++ y)
append_below [] y hx hy i = hy i
append_below (a ∷ x) y hx hy zero = hx 0
append_below (a ∷ x) y hx hy (suc i) = append_below x y (λ j. hx (suc j)) hy i

zeros_below : (n : ℕ) → Below (replicate n 0)
zeros_below zero i = omega arith
zeros_below (suc n) zero = omega arith
zeros_below (suc n) (suc i) = zeros_below n i

four_at_below : (w : List ℕ) (i : ℕ) → Below w → Below (four_at w i)
unfolding four_at
four_at_below w i h = four_below (h i) (h (i + 1)) (h (i + 2)) (h (i + 3))

xor_below : (x y : List ℕ) → Below x → Below y → Below (xor4 x y)
unfolding xor4
xor_below x y hx hy = four_below (both 0) (both 1) (both 2) (both 3)
  where
    both : (j : ℕ) → bit_xor (get_or x j 0) (get_or y j 0) < 2 ^ 32
    both j = xor_lt 32 (get_or x j 0) (get_or y j 0) (hx j) (hy j)

-- ---- the AES round on four words
column_byte : (w r : ℕ) → get_or (column_of w) r 0 < 256
unfolding column_of
column_byte w = four_all (λ x. x < 256) (omega arith) (omega arith) (omega arith) (omega arith) (omega arith)

columns_byte : (x : List ℕ) (r c : ℕ) → cell (columns_of x) r c < 256
columns_byte x r = four_all (λ a. get_or a r 0 < 256) (column 0) (column 1) (column 2) (column 3) (omega arith)
  where
    column : (j : ℕ) → get_or (column_of (get_or x j 0)) r 0 < 256
    column j = column_byte (get_or x j 0) r

from_column_below : (a : List ℕ) → ((r : ℕ) → get_or a r 0 < 256) → from_column a < 2 ^ 32
unfolding from_column from_bytes
from_column_below a h = omega (arith, h 0, h 1, h 2, h 3)

pub round_below : (x key : List ℕ) → Below (round_of x key)
unfolding round_of
round_below x key = four_below (column 0) (column 1) (column 2) (column 3)
  where
    s : List (List ℕ)
    s = aes_round (columns_of x) (columns_of key)

    column : (j : ℕ) → from_column (get_or s j []) < 2 ^ 32
    column j = from_column_below (get_or s j []) (λ r. round_byte (columns_of x) (columns_of key) (columns_byte key) r j)

pub inner_below : (keys : ℕ) (w : List ℕ) (i : ℕ) (x : List ℕ) → Below (inner_of keys w i x)
unfolding inner_of
inner_below keys w i x = round_below _ zero4

-- ---- the ciphers
-- what each step keeps, all of them keep
pub times_keeps : {A : Type 0} (P : A → Type 0) (f : ℕ → A → A) → ((k : ℕ) (s : A) → P s → P (f k s)) → (n : ℕ) (s : A) → P s → P (times n f s)
unfolding times
times_keeps P f h zero s p = p
times_keeps P f h (suc n) s p = h n (times n f s) (times_keeps P f h n s p)

pub record HalvesBelow (s : Halves) : Type 0 where
  pub left : Below s.left
  pub right : Below s.right

pub record QuartersBelow (s : Quarters) : Type 0 where
  pub l : Below s.l
  pub a : Below s.a
  pub b : Below s.b
  pub r : Below s.r

pub halves_below : (F : ℕ → List ℕ → List ℕ) → ((k : ℕ) (x : List ℕ) → Below (F k x)) → (n : ℕ) (s : Halves) → HalvesBelow s
    → HalvesBelow (times n (halves_round F) s)
unfolding halves_round
halves_below F hF = times_keeps HalvesBelow (halves_round F) step
  where
    step : (k : ℕ) (s : Halves) → HalvesBelow s → HalvesBelow (halves_round F k s)
    step k s h = record { left = h.right; right = xor_below s.left (F k s.right) h.left (hF k s.right) }

pub quarters_below : (F F' : ℕ → List ℕ → List ℕ) → ((k : ℕ) (x : List ℕ) → Below (F k x)) → ((k : ℕ) (x : List ℕ) → Below (F' k x)) → (n : ℕ) (s : Quarters)
    → QuartersBelow s → QuartersBelow (times n (quarters_round F F') s)
unfolding quarters_round
quarters_below F F' hF hF' = times_keeps QuartersBelow (quarters_round F F') step
  where
    step : (k : ℕ) (s : Quarters) → QuartersBelow s → QuartersBelow (quarters_round F F' k s)
    step k s h = record {
      l = h.r;
      a = xor_below s.l (F k s.a) h.l (hF k s.a);
      b = h.a;
      r = xor_below s.b (F' k s.r) h.b (hF' k s.r);
    }

-- ---- compression
module _ (chain : List ℕ) (h : Below chain) where
  small_below : (w : List ℕ) → HalvesBelow (small_cipher w chain)
  unfolding small_cipher
  small_below w =
      halves_below (λ k. inner_of 2 w (12 * k)) (λ k x. inner_below 2 w (12 * k) x) (rounds Small) _
      (record { left = four_at_below chain 0 h; right = four_at_below chain 4 h })

  large_below : (w : List ℕ) → QuartersBelow (large_cipher w chain)
  unfolding large_cipher
  large_below w =
      quarters_below (λ k. inner_of 3 w (32 * k)) (λ k. inner_of 3 w (32 * k + 16)) (λ k x. inner_below 3 w (32 * k) x)
      (λ k x. inner_below 3 w (32 * k + 16) x) (rounds Large) _
      (record { l = four_at_below chain 0 h; a = four_at_below chain 4 h; b = four_at_below chain 8 h; r = four_at_below chain 12 h })

  -- four words of the output, and the rest of it
  fed_below : (i : ℕ) (x rest : List ℕ) → Below x → Below rest → Below (xor4 (four_at chain i) x ++ rest)
  fed_below i x rest hx hr = append_below (xor4 (four_at chain i) x) rest (xor_below (four_at chain i) x (four_at_below chain i h) hx) hr

  small_output_below : (s : Halves) → HalvesBelow s → Below (small_output chain s)
  unfolding small_output
  small_output_below s p =
      let right = xor4 (four_at chain 4) s.right ++ replicate 8 0 in
      fed_below 0 s.left right p.left (fed_below 4 s.right (replicate 8 0) p.right (zeros_below 8))

  large_output_below : (s : Quarters) → QuartersBelow s → Below (large_output chain s)
  unfolding large_output
  large_output_below s p =
      let r = xor4 (four_at chain 12) s.r in
      let b = xor4 (four_at chain 8) s.b ++ r in
      let a = xor4 (four_at chain 4) s.a ++ b in
      fed_below 0 s.l a p.l
      (fed_below 4 s.a b p.a (fed_below 8 s.b r p.b (xor_below (four_at chain 12) s.r (four_at_below chain 12 h) p.r)))

pub compress_below : (f : Family) (chain block : List ℕ) (c : Counter) (salt : List ℕ) → Below chain → Below (compress_of f chain block c salt)
unfolding compress_of
compress_below Small chain block c salt h =
    let w = expand_of Small block c (words_of 16 salt) in small_output_below chain h (small_cipher w chain) (small_below chain h w)
compress_below Large chain block c salt h =
    let w = expand_of Large block c (words_of 16 salt) in large_output_below chain h (large_cipher w chain) (large_below chain h w)

pub start_below : (f : Family) (m : ℕ) → Below (start_of f m)
unfolding start_of master_of
start_below f m = compress_below f _ _ _ _ (compress_below f _ _ _ _ (zeros_below 16))
