-- `nonlinear` meets its contract: a turn adds a group, under the salt's quads in turn.
use mathlib.Core.Path.{◌≡◌}
use Prim.Native.Nat.{◌+◌, ◌*◌, ◌≤◌}
use lib.ListN.{length, take}
use Rattle.family.specs.Family.{block_words}
use Rattle.compress.specs.Expansion.{places, nonlinear_run}
use Rattle.expanded.proofs.expansion.nonlinear.Given as goal

abbrev pub invariant-loop-k : goal.invariant-loop-k
invariant-loop-k g l = (l.k ≤ l.groups) × (length l.w ≡ length l.initial.w) × (take (l.i + 4 * l.k) l.w ≡ nonlinear_run (block_words l.family) l.quads (places l.family l.c) l.salt l.k (take l.i l.initial.w))
