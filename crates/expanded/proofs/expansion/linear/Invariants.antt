use mathlib.Core.Path.{◌≡◌}
use Prim.Native.Nat.{◌+◌, ◌≤◌}
use lib.ListN.{length, take}
use Rattle.compress.specs.Expansion.{linear_run}
use Rattle.expanded.proofs.expansion.linear.Given as goal

abbrev pub invariant-loop-k : goal.invariant-loop-k
invariant-loop-k l = (l.k ≤ l.n) × (length l.w ≡ length l.initial.w) × (take (l.i + l.k) l.w ≡ linear_run l.n l.near l.k (take l.i l.initial.w))
