-- The bytes in one row, each replaced, and back in columns.
use Rattle.aes.specs.Round.{sub_bytes}
use Rattle.aes.proofs.sub_bytes.Goals as goal

pub returns : goal.returns
unfolding sub_bytes
returns c = rw (c.in_columns.ensures, c.sub_each.ensures, c.flat.ensures)
