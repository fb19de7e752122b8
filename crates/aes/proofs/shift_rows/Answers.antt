use mathlib.Core.Path.{refl}
use Rattle.aes.specs.Round.{shift_rows}
use Rattle.aes.proofs.shift_rows.Goals as goal

pub returns : goal.returns
unfolding shift_rows
returns c = refl
