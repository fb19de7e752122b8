use mathlib.Core.Path.{◌∙◌}
use native.Mathlib.Omega.{arith}
use Rattle.words.specs.Words.{from_column, from_bytes}
use Rattle.words.proofs.from_column.Goals as goal

pub returns : goal.returns
unfolding from_column from_bytes
returns c = c.from_be_bytes.ensures ∙ omega arith
