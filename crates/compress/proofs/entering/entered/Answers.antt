-- Where a place is given the table is computed; elsewhere no place stands in the group.
use borrow.Author.Rules.{rules}
use Rattle.family.specs.declared.Family.TheVariants.{Small, Large}
use Rattle.compress.specs.Expansion.{entered_of, counts_of, enters, places}
use Rattle.compress.proofs.Growing.{entered_none}
use Rattle.compress.proofs.entering.entered.Goals as goal

pub returns-in_default : goal.returns-in_default
unfolding places
returns-in_default c = rw c.in-Small.is (entered_none Small c.args.c c.args.i c.args.x (search rules) (search rules))

pub returns-in-32 : goal.returns-in-32
unfolding entered_of counts_of enters places
returns-in-32 c = rw (c.xored-in-32.ensures, c.in-Large.is, c.in-32.is)

pub returns-in-316 : goal.returns-in-316
unfolding entered_of counts_of enters places
returns-in-316 c = rw (c.xored-in-316.ensures, c.in-Large.is, c.in-316.is)

pub returns-in-440 : goal.returns-in-440
unfolding entered_of counts_of enters places
returns-in-440 c = rw (c.xored-in-440.ensures, c.in-Large.is, c.in-440.is)

pub returns-in_default-i : goal.returns-in_default-i
unfolding places
returns-in_default-i c = rw c.in-Large.is (entered_none Large c.args.c c.args.i c.args.x (search rules) (search rules))
