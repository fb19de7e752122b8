-- What was made, or the refusal and the state that the rule names.
use mathlib.Core.Path.{◌∙◌}
use Rattle.answers.proofs.Handing.{handed_made}
use Rattle.digest.specs.Calls.{add_of}
use Rattle.digest.proofs.calls.add.Goals as goal

pub returns : goal.returns
unfolding add_of
returns c = c.of.ensures ∙ rw c.added.ensures (handed_made _ _ _)
