-- The count, and so many of the held bytes behind it.
use native.Mathlib.Omega.{arith}
use Rattle.saved_form.proofs.Bounds.{held_max}
use Rattle.saving.proofs.Putting.{held_put}
use Rattle.saving.proofs.put_held.Goals as goal

pub overflow_add-at : goal.overflow_add-at
overflow_add-at c = omega (arith, c.held_place-at.ensures, held_max c.args.family)

pub returns : goal.returns
returns c =
    let a = c.args in
    held_put a.out.now a.family a.rest a.held c.held_place-at.ensures c.part.ensures c.put_number.ensures c.put_bytes.ensures
