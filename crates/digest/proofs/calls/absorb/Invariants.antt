-- Each turn takes whole blocks at once, or what fits into the held block; Mid says what the locals then hold, and at the end it is what the contract says.
use Prim.Native.Nat.{◌-◌, ◌≤◌}
use lib.ListN.{length, take}
use Rattle.digest.proofs.Middle.{Mid}
use Rattle.digest.proofs.calls.absorb.Given as goal

abbrev pub invariant-loop-i : goal.invariant-loop-i
invariant-loop-i l = (l.i ≤ length l.bytes) × Mid l.state (take l.i l.bytes) l.chain l.compressed l.held l.rest l.counter

abbrev pub decreases-loop-i : goal.decreases-loop-i
decreases-loop-i l = length l.bytes - l.i
