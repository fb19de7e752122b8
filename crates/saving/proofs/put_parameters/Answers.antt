-- Three numbers, each where the one before ends.
use Rattle.saving.proofs.Putting.{parameters_put}
use Rattle.saving.proofs.put_parameters.Goals as goal

pub returns : goal.returns
returns c =
    let a = c.args in
    parameters_put a.out.now a.family a.m c.number.ensures c.put_number.ensures c.put_number-2.ensures (rw c.from.ensures at c.put_number-3.ensures)
