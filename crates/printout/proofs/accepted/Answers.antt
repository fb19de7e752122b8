-- Line 1 piece by piece, and the registers' lines behind it.
use mathlib.Core.Path.{◌≡◌}
use native.Mathlib.Omega.{arith}
use Rattle.std.proofs.Common.{append_assoc}
use Rattle.printout.specs.Printout.{text_of}
use Rattle.printout.proofs.Pages.{kept_more}
use Rattle.printout.proofs.accepted.Goals as goal

pub returns : goal.returns
unfolding text_of
returns c =
    let all : c.loop-register.register ≡ c.args.found.registers = omega arith in
    let lines = rw all at c.loop-register.invariant in
    grind (arith, kept_more, append_assoc, lines)
