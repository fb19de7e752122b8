-- `sub` meets its contract: each arm's value is the table's.
use mathlib.Core.Path.{◌≡◌}
use native.Mathlib.Omega.{arith}
use Rattle.sbox.specs.Sbox.{sbox_of, sbox_table}
use Rattle.sbox.proofs.Table.{past}
use Rattle.sbox.proofs.sub.Goals as goal

pub returns-in_default : goal.returns-in_default
unfolding sbox_of sbox_table
returns-in_default c =
    let x = c.args.x in
    let at : x ≡ 255 = omega (arith, past 255 x c.in_default.in_default-own.rest, c.ranges.x.fits) in
    rw at
