-- Each turn takes the next byte towards the front.
use mathlib.Core.Path.{◌≡◌}
use Prim.Native.Nat.{◌+◌, ◌-◌}
use Rattle.fields.specs.Fields.{number_in}
use Rattle.loading.proofs.number_in.Given as goal

abbrev pub invariant-loop-i : goal.invariant-loop-i
invariant-loop-i l = l.value ≡ number_in (l.count - l.i) l.form (l.at + l.i)
