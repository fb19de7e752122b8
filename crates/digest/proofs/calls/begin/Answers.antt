-- What was made, or the refusal and the state that the rule names.
use mathlib.Core.Path.{◌∙◌}
use Rattle.answers.proofs.Handing.{handed_made}
use Rattle.digest.specs.Calls.{begin_of}
use Rattle.digest.proofs.calls.begin.Goals as goal

pub returns : goal.returns
unfolding begin_of
returns c = c.of.ensures ∙ rw (c.begun.ensures, c.zero_state.ensures) (handed_made _ _ _)
