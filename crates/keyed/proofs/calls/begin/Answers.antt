-- What was made, or the refusal and the keyed state that the rule names.
use mathlib.Core.Path.{◌∙◌}
use Rattle.answers.proofs.Handing.{handed_made}
use Rattle.keyed.specs.Calls.{key_begin_of}
use Rattle.keyed.proofs.calls.begin.Goals as goal

pub returns : goal.returns
unfolding key_begin_of
returns c = c.of.ensures ∙ rw (c.begun.ensures, c.zero_keyed.ensures) (handed_made _ _ _)
