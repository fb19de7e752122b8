use Rattle.words.specs.Words.{word_at}
use Rattle.words.proofs.word_of.Goals as goal

pub returns : goal.returns
unfolding word_at
returns c = rw (c.word.ensures, c.byte_or_zero.ensures, c.byte_or_zero-2.ensures, c.byte_or_zero-3.ensures, c.byte_or_zero-4.ensures)
