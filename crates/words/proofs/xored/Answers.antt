use mathlib.Core.Path.{refl}
use Rattle.words.specs.Words.{xor4}
use Rattle.words.proofs.xored.Goals as goal

pub returns : goal.returns
unfolding xor4
returns c = refl
