use Rattle.aes.specs.Round.{add_round_key}
use Rattle.aes.proofs.Columns.{four_equal}
use Rattle.aes.proofs.add_round_key.Goals as goal

pub returns : goal.returns
unfolding add_round_key
returns c = four_equal c.add_column.ensures c.add_column-2.ensures c.add_column-3.ensures c.add_column-4.ensures
