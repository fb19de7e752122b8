-- The start-up calls (document 01, "Compression").
use Rattle.std.specs.Prelude.{List, ◌∷◌, ℕ, ◌/◌, ◌%◌, replicate}
use Rattle.family.specs.declared.Family.{Family}
use Rattle.counter.specs.Counter.{counter_of}
use Rattle.compress.specs.Compression.{compress_of}

-- The master value is compression of all zeros with counter 0.
unfoldable pub master_of : Family → List ℕ
master_of f = compress_of f (replicate 16 0) (replicate 128 0) (counter_of 0) (replicate 64 0)

-- The starting value for m bits is compression of the master value with m as the block's word 0, all else zero. (m is below 65,536.)
unfoldable pub start_of : Family → ℕ → List ℕ
start_of f m = compress_of f (master_of f) (m % 256 ∷ m / 256 ∷ replicate 126 0) (counter_of 0) (replicate 64 0)
