use Rattle.aes.proofs.Columns.{four_equal}
use Rattle.tables.specs.Tables.{round_by}
use Rattle.tables.proofs.round.Goals as goal

pub returns : goal.returns
unfolding round_by
returns c = four_equal c.column.ensures c.column-2.ensures c.column-3.ensures c.column-4.ensures
