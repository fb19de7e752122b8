-- The number stands behind its count.
use native.Mathlib.Omega.{arith}
use Rattle.loading.specs.Reading.{covered_in}
use Rattle.saved_form.proofs.Bounds.{covered_max}
use Rattle.loading.proofs.covered_in.Goals as goal

pub overflow_add-at : goal.overflow_add-at
overflow_add-at c = omega (arith, c.covered_place-at.ensures, covered_max c.family_in.result)

pub number_in-requires : goal.number_in-requires
number_in-requires c = (omega (arith, c.covered_place-at.ensures, covered_max c.family_in.result), omega arith)

pub returns : goal.returns
unfolding covered_in
returns c = rw (c.covered_place-at.ensures, c.family_in.ensures) at c.number_in.ensures
