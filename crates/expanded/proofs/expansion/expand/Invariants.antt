use mathlib.Core.Path.{◌≡◌}
use Prim.Native.Nat.{◌+◌, ◌*◌, ◌≤◌}
use lib.ListN.{length, take}
use Rattle.family.specs.Family.{block_words}
use Rattle.family.specs.Family as table
use Rattle.words.specs.Words.{times}
use Rattle.compress.specs.Expansion.{run_of}
use Rattle.expanded.proofs.expansion.expand.Given as goal

abbrev pub invariant-loop-r : goal.invariant-loop-r
invariant-loop-r g l = (l.r ≤ l.runs) × (length l.w ≡ table.expanded_words l.family)
    × (take (block_words l.family * (l.r + 1)) l.w ≡ times l.r (run_of l.family l.c l.s) (take (block_words l.family) l.initial.w))
