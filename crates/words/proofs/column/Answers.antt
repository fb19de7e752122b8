use Rattle.words.specs.Words.{column_of}
use Rattle.words.proofs.column.Goals as goal

pub returns : goal.returns
unfolding column_of
returns c = c.to_be_bytes.ensures
