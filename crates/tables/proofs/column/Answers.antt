use mathlib.Core.Path.{refl}
use Rattle.tables.specs.Tables.{column_by}
use Rattle.tables.proofs.column.Goals as goal

pub returns : goal.returns
unfolding column_by
returns c = refl
