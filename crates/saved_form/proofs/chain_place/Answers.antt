-- A salt has at most 64 bytes, so the sum fits.
use native.Mathlib.Omega.{arith}
use Rattle.family.proofs.Sizes.{salt_max}
use Rattle.saved_form.proofs.chain_place.Goals as goal

pub overflow_add-result-2 : goal.overflow_add-result-2
overflow_add-result-2 c = omega (arith, c.salt_bytes.ensures, salt_max c.args.family)
