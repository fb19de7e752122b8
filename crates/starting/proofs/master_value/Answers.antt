use mathlib.Core.Path.{sym}
use Rattle.family.specs.declared.Family.TheVariants.{Small, Large}
use Rattle.startup.specs.Printed.{printed_master}
use Rattle.startup.proofs.Printed.{master_printed}
use Rattle.starting.proofs.master_value.Goals as goal

pub returns-in-Small : goal.returns-in-Small
unfolding printed_master
returns-in-Small c = rw c.in-Small.is (sym (master_printed Small))

pub returns-in-Large : goal.returns-in-Large
unfolding printed_master
returns-in-Large c = rw c.in-Large.is (sym (master_printed Large))
