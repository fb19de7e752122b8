-- The four words at i, made from what the window holds.
use mathlib.Core.Path.{◌≡◌, sym}
use mathlib.Core.List.{List, [], ◌∷◌}
use Prim.Native.Nat.{ℕ, ◌+◌, ◌-◌, ◌/◌, ◌%◌, ◌≤◌, ◌<◌}
use native.Mathlib.Omega.{arith}
use Rattle.family.specs.declared.Family.TheVariants.{Small}
use Rattle.counter.specs.declared.Counter.{Counter}
use Rattle.words.specs.Words.{four_at, word_at, words_of}
use Rattle.compress.specs.Expansion.{places, counts_of}
use Rattle.compress.specs.Window.{small_words, Holds, nonlinear_from, linear_from}
use Rattle.compress.proofs.Grown.{block_words_lem, nonlinear_words, linear_words}
use Rattle.compress.proofs.Sixteen.{holds_four}

module _ (w block : List ℕ) (c : Counter) (salt : List ℕ) (i : ℕ) (g : i % 4 ≡ 0) (b : i + 4 ≤ 144) (h : Holds w (small_words block c salt) i) where
  pub windowed_block : i < 16 → (word_at block i ∷ word_at block (i + 1) ∷ word_at block (i + 2) ∷ word_at block (i + 3) ∷ []) ≡ four_at (small_words block c salt) i
  windowed_block l = sym (block_words_lem block c (words_of 16 salt) i (omega arith))

  far : 16 ≤ i → four_at w ((i - 16) % 16) ≡ four_at (small_words block c salt) (i - 16)
  far l = holds_four w (small_words block c salt) i (i - 16) h (omega arith) (omega arith) (omega arith)

  last : 16 ≤ i → four_at w ((i - 4) % 16) ≡ four_at (small_words block c salt) (i - 4)
  last l = holds_four w (small_words block c salt) i (i - 4) h (omega arith) (omega arith) (omega arith)

  pub windowed_nonlinear : 16 ≤ i → i / 16 % 2 ≡ 1
      → nonlinear_from (four_at w ((i - 16) % 16)) (four_at w ((i - 4) % 16)) (four_at (words_of 16 salt) (i % 8)) (counts_of (places Small c) i)
      ≡ four_at (small_words block c salt) i
  windowed_nonlinear l e = rw (far l, last l) (sym (nonlinear_words block c (words_of 16 salt) i l b g e))

  pub windowed_linear : 16 ≤ i → (i / 16 % 2 ≡ 1 → ⊥)
      → linear_from (four_at w ((i - 16) % 16)) (four_at w ((i - 4) % 16)) ≡ four_at (small_words block c salt) i
  windowed_linear l e = rw (far l, last l) (sym (linear_words block c (words_of 16 salt) i l b g e))
