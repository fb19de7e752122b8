-- The place of the bytes covered is known.
use native.Mathlib.Omega.{arith}
use Rattle.saved_form.proofs.Bounds.{covered_max}
use Rattle.saved_form.proofs.held_place.Goals as goal

pub overflow_add-result : goal.overflow_add-result
overflow_add-result c = omega (arith, c.covered_place.ensures, covered_max c.args.family)

pub overflow_add-result-2 : goal.overflow_add-result-2
overflow_add-result-2 c = omega (arith, c.covered_place.ensures, covered_max c.args.family)
