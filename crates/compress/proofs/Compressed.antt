-- What callers know of a compression's output: sixteen words, zero past the family's chain, and only the family's block is read.
use mathlib.Core.Path.{◌≡◌, refl}
use Prim.Native.Nat.{ℕ, zero, suc, ◌+◌, ◌-◌, ◌*◌, ◌≤◌}
use native.Mathlib.Omega.{arith}
use mathlib.Core.List.{List}
use lib.ListN.{length, take, drop, replicate}
use lib.Seq.{get_or-take}
use Rattle.family.specs.declared.Family.{Family}
use Rattle.family.specs.declared.Family.TheVariants.{Small, Large}
use Rattle.counter.specs.declared.Counter.{Counter}
use Rattle.family.specs.Family.{block_bytes, block_words, chain_words}
use Rattle.words.specs.Words.{word_at, words_of, xor4}
use Rattle.compress.specs.Expansion.{expand_of}
use Rattle.compress.specs.Compression.{small_output, large_output, compress_of}
use Rattle.family.proofs.Numbers.{numbers}

-- the first n words of a list of bytes are those of its first m bytes
words_take : (n m : ℕ) (b : List ℕ) → 4 * n ≤ m → words_of n (take m b) ≡ words_of n b
unfolding words_of word_at
words_take zero m b h = refl
words_take (suc n) m b h =
    rw (
      words_take n m b (omega arith),
      get_or-take m b (4 * n) 0 (omega arith),
      get_or-take m b (4 * n + 1) 0 (omega arith),
      get_or-take m b (4 * n + 2) 0 (omega arith),
      get_or-take m b (4 * n + 3) 0 (omega arith),
    )

expand_block : (f : Family) (block : List ℕ) (c : Counter) (salt : List ℕ) → expand_of f (take (block_bytes f) block) c salt ≡ expand_of f block c salt
unfolding expand_of
expand_block f block c salt = let n = numbers f in rw (words_take (block_words f) (block_bytes f) block (omega arith))

pub compress_block : (f : Family) (chain block : List ℕ) (c : Counter) (salt : List ℕ)
    → compress_of f chain (take (block_bytes f) block) c salt ≡ compress_of f chain block c salt
unfolding compress_of
compress_block Small chain block c salt = rw expand_block
compress_block Large chain block c salt = rw expand_block

pub compress_length : (f : Family) (chain block : List ℕ) (c : Counter) (salt : List ℕ) → length (compress_of f chain block c salt) ≡ 16
unfolding compress_of small_output large_output xor4
compress_length Small chain block c salt = refl
compress_length Large chain block c salt = refl

pub compress_zero : (f : Family) (chain block : List ℕ) (c : Counter) (salt : List ℕ)
    → drop (chain_words f) (compress_of f chain block c salt) ≡ replicate (16 - chain_words f) 0
unfolding compress_of small_output large_output xor4
compress_zero Small chain block c salt = refl
compress_zero Large chain block c salt = refl
