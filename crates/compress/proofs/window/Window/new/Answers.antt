use mathlib.Core.Path.{refl}
use Rattle.compress.proofs.Sixteen.{holds_none}
use Rattle.compress.proofs.window.Window.new.Goals as goal

pub invariant_of-result : goal.invariant_of-result
invariant_of-result c = record { fours = refl; holds = holds_none _ _ }
