use mathlib.Core.Path.{◌≡◌}
use Prim.Native.Nat.{◌-◌, ◌%◌, ◌≤◌}
use Rattle.expanded.specs.Places.{quarters_at}
use Rattle.expanded.proofs.Quarters.{Standing}
use Rattle.expanded.proofs.cipher.large.Given as goal

abbrev pub invariant-loop-i : goal.invariant-loop-i
invariant-loop-i g l = (l.i ≤ 448) × (l.i % 16 ≡ 0) × Standing l.w (quarters_at 0 l.initial.h) l.i l.h

abbrev pub decreases-loop-i : goal.decreases-loop-i
decreases-loop-i g l = 448 - l.i
