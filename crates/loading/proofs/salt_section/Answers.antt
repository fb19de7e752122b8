-- The section's numbers are the family's.
use native.Mathlib.Omega.{arith}
use Rattle.family.proofs.Sizes.{salt_max}
use Rattle.loading.proofs.salt_section.Goals as goal

pub section-requires : goal.section-requires
section-requires c = (omega arith, omega (arith, c.salt_bytes-size.ensures, salt_max c.args.family))

pub returns : goal.returns
returns c = rw c.salt_bytes-size.ensures at c.section.ensures
