use Prim.Native.Nat.{◌%◌}
use native.Mathlib.Omega.{arith}
use Rattle.family.specs.declared.Family.TheVariants.{Small}
use Rattle.compress.specs.Window.{nonlinear_from}
use Rattle.compress.proofs.Growing.{entered_group}
use Rattle.compress.proofs.Grown.{words_four}
use Rattle.compress.proofs.window.Window.nonlinear.Goals as goal

pub returns : goal.returns
unfolding nonlinear_from
returns c =
    let w = c.args.self.now in
    rw (
      c.entered.ensures,
      entered_group Small w.from.counter w.next c.xored.result w.fours,
      c.xored.ensures,
      c.quad-last.ensures,
      c.aes_round-mixed.ensures,
      c.xored-salted.ensures,
      c.quad_of.ensures,
      c.taps.ensures,
      c.quad-far.ensures,
      words_four 16 w.from.salt.now (w.next % 8) (omega arith),
    )
