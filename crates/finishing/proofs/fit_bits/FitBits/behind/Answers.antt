-- At most 7 last bits fit.
use native.Mathlib.Omega.{arith}
use Rattle.bits.proofs.Fitting.{at_most_7}
use Rattle.finishing.proofs.fit_bits.FitBits.behind.Goals as goal

pub overflow_mul-result : goal.overflow_mul-result
overflow_mul-result c = omega (arith, c.requires)

pub overflow_add-result : goal.overflow_add-result
overflow_add-result c = omega (arith, c.requires, at_most_7 c.args.self.bits c.args.self.fit)
