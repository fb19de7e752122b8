use borrow.Author.Rules.{rules}
use mathlib.Core.List.{[]}
use Rattle.aes.specs.Round.{mix_columns}
use Rattle.aes.proofs.Columns.{turned_more, turned_four}
use Rattle.aes.proofs.mix_columns.Invariants.{done}
use Rattle.aes.proofs.mix_columns.Goals as goal

pub loop-c-preserved : goal.loop-c-preserved
loop-c-preserved c = turned_more [] done c.loop-c.invariant (search rules) c.mix_column.ensures

pub returns : goal.returns
unfolding mix_columns
returns c = turned_four [] done c.loop-c.invariant (search rules)
