use Rattle.words.specs.Words.{round_of}
use Rattle.words.proofs.aes_round.Goals as goal

pub returns : goal.returns
unfolding round_of
returns c = rw (c.from_columns.ensures, c.round.ensures, c.columns-2.ensures, c.columns.ensures)
