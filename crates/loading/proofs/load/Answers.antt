-- What was read, or the refusal and the all-zero state.
use mathlib.Core.Path.{◌∙◌}
use Rattle.answers.proofs.Handing.{handed_made}
use Rattle.loading.specs.Calls.{load_of}
use Rattle.loading.proofs.load.Goals as goal

pub returns : goal.returns
unfolding load_of
returns c = c.of.ensures ∙ rw (c.loaded.ensures, c.zero_state.ensures) (handed_made _ _ _)
