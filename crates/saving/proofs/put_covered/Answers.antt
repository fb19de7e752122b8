-- The count, and the number behind it.
use native.Mathlib.Omega.{arith}
use Rattle.saved_form.proofs.Bounds.{covered_max}
use Rattle.saving.proofs.Putting.{covered_put}
use Rattle.saving.proofs.put_covered.Goals as goal

pub overflow_add-at : goal.overflow_add-at
overflow_add-at c = omega (arith, c.covered_place-at.ensures, covered_max c.args.family)

pub returns : goal.returns
returns c =
    let a = c.args in
    covered_put a.out.now a.family a.covered.0 c.covered_place-at.ensures c.put_number.ensures c.put_number-2.ensures
