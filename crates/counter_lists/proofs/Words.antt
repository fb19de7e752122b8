-- The words of a counter that compression reads: all that it reads, and enough to tell the counters of a message.
use mathlib.Core.Path.{◌≡◌}
use mathlib.Core.List.{List}
use Prim.Native.Nat.{ℕ, ◌+◌, ◌*◌, ◌^◌, ◌<◌}
use native.Mathlib.Omega.{arith}
use lib.ListN.{get_or}
use Rattle.family.specs.declared.Family.{Family}
use Rattle.family.specs.declared.Family.TheVariants.{Small, Large}
use Rattle.counter.specs.declared.Counter.{Counter}
use Rattle.counter.specs.Counter.{counter_of}
use Rattle.words.specs.Words.{words_of}
use Rattle.compress.specs.Expansion.{places, run_of, expand_of}
use Rattle.compress.specs.Compression.{compress_of}
use Rattle.counter_lists.specs.Lists.{words_read}

-- These words are all that the expansion takes from the counter.
places_read : (f : Family) (c c' : Counter) → words_read f c ≡ words_read f c' → places f c ≡ places f c'
unfolding places words_read
places_read Small c c' e = cc
places_read Large c c' e = cc

-- at each run and list, since `simp` finds the places only in a whole call
runs_read : (f : Family) (c c' : Counter) (salt : List ℕ) → words_read f c ≡ words_read f c' → run_of f c salt ≡ run_of f c' salt
unfolding run_of
runs_read f c c' salt e = λ i r w. at r w i
  where
    at : (r : ℕ) (w : List ℕ) → run_of f c salt r w ≡ run_of f c' salt r w
    at r w = simp (places_read f c c' e)

-- These words are all that compression reads of the counter.
pub compress_reads : (f : Family) (chain block : List ℕ) (c c' : Counter) (salt : List ℕ) → words_read f c ≡ words_read f c'
    → compress_of f chain block c salt ≡ compress_of f chain block c' salt
unfolding compress_of expand_of
compress_reads Small chain block c c' salt e = rw (runs_read Small c c' (words_of 16 salt) e)
compress_reads Large chain block c c' salt e = rw (runs_read Large c c' (words_of 16 salt) e)

-- the number of a counter, from the low two words that are read of it
pub number_read : List ℕ → ℕ
number_read ws = get_or ws 0 0 + 2 ^ 32 * get_or ws 1 0

-- Below 2^64 those two tell it, in both families.
pub words_tell : (f : Family) (n : ℕ) → n < 2 ^ 64 → number_read (words_read f (counter_of n)) ≡ n
unfolding words_read counter_of number_read
words_tell Small n h = omega arith
words_tell Large n h = omega arith
