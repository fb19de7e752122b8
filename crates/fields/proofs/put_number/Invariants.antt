-- Each turn puts the low byte of what is left of the value, and the rest of the value goes behind it.
use mathlib.Core.Path.{◌≡◌}
use Prim.Native.Nat.{◌+◌, ◌-◌}
use lib.Seq.{sets}
use Rattle.fields.specs.Fields.{le}
use Rattle.fields.proofs.put_number.Given as goal

abbrev pub invariant-loop-to : goal.invariant-loop-to
invariant-loop-to l = sets l.initial.out l.at (le l.count l.value) ≡ sets l.out l.to (le (l.at + l.count - l.to) l.rest)
