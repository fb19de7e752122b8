use mathlib.Core.Path.{refl}
use Rattle.compress.specs.Window.{linear_from}
use Rattle.compress.proofs.window.linear.Goals as goal

pub returns : goal.returns
unfolding linear_from
returns c = refl
