-- The sections, each where the one before ends.
use Rattle.saving.proofs.Putting.{form_put}
use Rattle.saving.proofs.put_form.Goals as goal

pub returns : goal.returns
returns c =
    form_put c.args.state c.requires c.args.out.now c.held_bytes.ensures
    c.put_parameters.ensures c.put_salt.ensures c.put_chain.ensures c.put_covered.ensures c.put_held.ensures
