-- Past the end both bytes count as 0; else the sum is the definition's.
use Prim.Native.Nat.{◌+◌}
use native.Mathlib.Omega.{arith}
use lib.ListN.{get_or-eq_default}
use Rattle.fields.specs.Fields.{number_in}
use Rattle.fields.proofs.number_at.Goals as goal

pub returns-then-i-bytes : goal.returns-then-i-bytes
unfolding number_in
returns-then-i-bytes c =
    let a = c.args in
    omega (arith, get_or-eq_default a.bytes.now 0 {n = a.i} (omega arith), get_or-eq_default a.bytes.now 0 {n = a.i + 1} (omega arith))

pub returns : goal.returns
unfolding number_in
returns c = omega (arith, c.byte_at.ensures.0, c.byte_at-2.ensures.0)
