use mathlib.Core.Path.{◌≡◌}
use mathlib.Core.List.{◌++◌}
use Prim.Native.Nat.{◌≤◌}
use lib.ListN.{length, drop}
use Rattle.words.specs.Words.{words_of}
use Rattle.expanded.proofs.expansion.load.Given as goal

abbrev pub invariant-loop-j : goal.invariant-loop-j
invariant-loop-j l = (l.j ≤ l.n) × (length l.w ≡ length l.initial.w) × (l.w ≡ words_of l.j l.bytes ++ drop l.j l.initial.w)
