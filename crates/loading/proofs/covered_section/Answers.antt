-- The section's place is the family's.
use native.Mathlib.Omega.{arith}
use Rattle.saved_form.proofs.Bounds.{covered_max}
use Rattle.loading.proofs.covered_section.Goals as goal

pub section-requires : goal.section-requires
section-requires c = omega (arith, c.covered_place-at.ensures, covered_max c.args.family)

pub returns : goal.returns
returns c = rw c.covered_place-at.ensures at c.section.ensures
