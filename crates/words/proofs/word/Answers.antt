use mathlib.Core.Path.{◌∙◌}
use native.Mathlib.Omega.{arith}
use Rattle.words.specs.Words.{from_bytes}
use Rattle.words.proofs.word.Goals as goal

pub returns : goal.returns
unfolding from_bytes
returns c = c.from_le_bytes.ensures ∙ omega arith
