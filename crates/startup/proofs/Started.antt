-- What callers know of a starting value: sixteen words, zero past the family's chain.
use mathlib.Core.Path.{◌≡◌}
use Prim.Native.Nat.{ℕ, ◌-◌}
use lib.ListN.{length, drop, replicate}
use Rattle.family.specs.declared.Family.{Family}
use Rattle.family.specs.Family.{chain_words}
use Rattle.compress.proofs.Compressed.{compress_length, compress_zero}
use Rattle.startup.specs.Startup.{start_of}

pub start_length : (f : Family) (m : ℕ) → length (start_of f m) ≡ 16
unfolding start_of
start_length f m = compress_length f _ _ _ _

pub start_zero : (f : Family) (m : ℕ) → drop (chain_words f) (start_of f m) ≡ replicate (16 - chain_words f) 0
unfolding start_of
start_zero f m = compress_zero f _ _ _ _
