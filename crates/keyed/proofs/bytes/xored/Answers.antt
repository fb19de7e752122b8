use mathlib.Core.Path.{◌≡◌, refl, ◌∙◌}
use native.Mathlib.Omega.{arith}
use lib.ListN.{length}
use Rattle.keyed.proofs.Xor.{xor_next, xor_all}
use Rattle.keyed.proofs.bytes.xored.Goals as goal

pub loop-b-init : goal.loop-b-init
loop-b-init c = refl

pub loop-b-preserved : goal.loop-b-preserved
loop-b-preserved c =
    let full : length c.args.block ≡ 128 = c.well_formed.0.1.0.1 in
    let l = c.loop-b in
    rw l.invariant (xor_next c.args.block 128 c.args.pad full l.b-index (omega arith))

pub returns : goal.returns
returns c =
    let full : length c.args.block ≡ 128 = c.well_formed.0.1.0.1 in
    let l = c.loop-b in
    let e : l.b-index ≡ 128 = omega arith in
    rw e at l.invariant ∙ xor_all c.args.block 128 c.args.pad full
