use Rattle.words.specs.Words.{four_at}
use Rattle.words.proofs.quad.Goals as goal

pub returns : goal.returns
unfolding four_at
returns c = rw (c.word_or_zero.ensures, c.word_or_zero-2.ensures, c.word_or_zero-3.ensures, c.word_or_zero-4.ensures)
