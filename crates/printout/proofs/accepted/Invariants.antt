-- The lines of the registers before stand behind the first line.
use mathlib.Core.Path.{◌≡◌}
use mathlib.Core.List.{◌++◌}
use Rattle.printout.specs.Page.{kept}
use Rattle.printout.specs.Printout.{register_lines}
use Rattle.printout.proofs.accepted.Given as goal

abbrev pub invariant-loop-register : goal.invariant-loop-register
invariant-loop-register l = l.page.items ≡ kept (l.initial.page.items ++ register_lines l.records l.register)
