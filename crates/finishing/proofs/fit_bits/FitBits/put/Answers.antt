-- Last bits that fit and the 1 bit behind them are a byte.
use native.Mathlib.Omega.{arith}
use Rattle.bits.proofs.Fitting.{marked_byte}
use Rattle.finishing.proofs.fit_bits.FitBits.put.Goals as goal

pub overflow_cast-block : goal.overflow_cast-block
overflow_cast-block c =
    let bits = c.args.self.bits in
    omega (arith, c.mark.ensures, marked_byte bits c.args.self.fit c.well_formed.0.1.1.0.1.1.0.1)

pub returns : goal.returns
returns c = rw c.mark.ensures
