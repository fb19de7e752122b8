use Prim.Native.Nat.{◌+◌, ◌-◌, ◌*◌, ◌≤◌}
use mathlib.Core.Path.{◌≡◌}
use native.Mathlib.Omega.{arith}
use native.Mathlib.Nat.{mod-le}
use lib.ListN.{length, length-take}
use lib.Seq.{take_all}
use Rattle.family.specs.Family.{block_bytes}
use Rattle.state.specs.State.{limit}
use Rattle.state.proofs.Soundness.{Sound, sound}
use Rattle.digest.proofs.Tests.{sized, runs, taken}
use Rattle.digest.proofs.Middle.{mid_start, compressed_max, next_more, next_block, next_run, mid_end}
use Rattle.digest.proofs.calls.absorb.Goals as goal

pub overflow_sub-covered : goal.overflow_sub-covered
overflow_sub-covered c = omega (arith, c.held_bytes-rest.ensures, mod-le c.args.state.covered.0 (block_bytes c.args.state.family))

pub overflow_mul-covered : goal.overflow_mul-covered
overflow_mul-covered c =
    let ok : Sound c.args.state = sound _ c.requires.0 in
    omega (arith, ok.within)

pub overflow_mul-bits : goal.overflow_mul-bits
overflow_mul-bits c =
    let z = sized c.args.state.family c.block_bytes-size.ensures in
    omega (arith, z)

pub overflow_cast-bits : goal.overflow_cast-bits
overflow_cast-bits c =
    let z = sized c.args.state.family c.block_bytes-size.ensures in
    omega (arith, z)

pub loop-i-init : goal.loop-i-init
loop-i-init c =
    let full : length c.args.state.held ≡ 128 = c.well_formed.1.0.1.1.1.1.1.1.1.1.0.1.0.1 in
    let ok : Sound c.args.state = sound _ c.requires.0 in
    (omega arith, mid_start c.args.state ok full c.held_bytes-rest.ensures c.of-counter.ensures)

pub at_once-n-requires : goal.at_once-n-requires
at_once-n-requires c =
    let z = sized c.args.state.family c.block_bytes-size.ensures in
    z.0

pub overflow_mul-end : goal.overflow_mul-end
overflow_mul-end c =
    let w = runs c.args.form c.loop-i.rest c.loop-i.invariant.0 c.args.state.family c.block_bytes-size.ensures c.at_once-n.ensures c.if-n-gt0.true in
    omega (arith, w)

pub overflow_add-end : goal.overflow_add-end
overflow_add-end c =
    let w = runs c.args.form c.loop-i.rest c.loop-i.invariant.0 c.args.state.family c.block_bytes-size.ensures c.at_once-n.ensures c.if-n-gt0.true in
    omega (arith, w)

pub slice_bounds-run_by_tables-end : goal.slice_bounds-run_by_tables-end
slice_bounds-run_by_tables-end c =
    let w = runs c.args.form c.loop-i.rest c.loop-i.invariant.0 c.args.state.family c.block_bytes-size.ensures c.at_once-n.ensures c.if-n-gt0.true in
    w.1

pub overflow_add-covered : goal.overflow_add-covered
overflow_add-covered c =
    let w = runs c.args.form c.loop-i.rest c.loop-i.invariant.0 c.args.state.family c.block_bytes-size.ensures c.at_once-n.ensures c.if-n-gt0.true in
    let within : c.args.state.covered.0 + (c.loop-i.i + c.at_once-n.result * c.block_bytes-size.result) ≤ limit = omega (arith, w.1, c.requires.1) in
    omega (arith, within)

pub overflow_mul-covered-then-n-gt0 : goal.overflow_mul-covered-then-n-gt0
overflow_mul-covered-then-n-gt0 c =
    let w = runs c.args.form c.loop-i.rest c.loop-i.invariant.0 c.args.state.family c.block_bytes-size.ensures c.at_once-n.ensures c.if-n-gt0.true in
    let within : c.args.state.covered.0 + (c.loop-i.i + c.at_once-n.result * c.block_bytes-size.result) ≤ limit = omega (arith, w.1, c.requires.1) in
    omega (arith, within)

pub overflow_add-compressed : goal.overflow_add-compressed
overflow_add-compressed c =
    let full : length c.args.state.held ≡ 128 = c.well_formed.1.0.1.1.1.1.1.1.1.1.0.1.0.1 in
    let ok : Sound c.args.state = sound _ c.requires.0 in
    let counted : c.loop-i.compressed ≤ c.args.state.covered.0 + c.loop-i.i = omega (arith, compressed_max c.args.state ok full c.loop-i.invariant.1, length-take c.loop-i.i c.args.bytes.now) in
    let w = runs c.args.form c.loop-i.rest c.loop-i.invariant.0 c.args.state.family c.block_bytes-size.ensures c.at_once-n.ensures c.if-n-gt0.true in
    let within : c.args.state.covered.0 + (c.loop-i.i + c.at_once-n.result * c.block_bytes-size.result) ≤ limit = omega (arith, w.1, c.requires.1) in
    omega (arith, within, counted, w.2)

pub loop-i-smaller-then-n-gt0 : goal.loop-i-smaller-then-n-gt0
loop-i-smaller-then-n-gt0 c =
    let w = runs c.args.form c.loop-i.rest c.loop-i.invariant.0 c.args.state.family c.block_bytes-size.ensures c.at_once-n.ensures c.if-n-gt0.true in
    omega (arith, w)

pub loop-i-preserved-then-n-gt0 : goal.loop-i-preserved-then-n-gt0
loop-i-preserved-then-n-gt0 c =
    let full : length c.args.state.held ≡ 128 = c.well_formed.1.0.1.1.1.1.1.1.1.1.0.1.0.1 in
    let ok : Sound c.args.state = sound _ c.requires.0 in
    let w = runs c.args.form c.loop-i.rest c.loop-i.invariant.0 c.args.state.family c.block_bytes-size.ensures c.at_once-n.ensures c.if-n-gt0.true in (
      w.1,
      next_run c.args.state ok full c.args.bytes.now c.loop-i.i c.at_once-n.result c.loop-i.invariant.1 w.0 c.requires.1 c.block_bytes-size.ensures w.1
          c.advance-next.ensures c.run_by_tables.ensures c.of-counter-then-n-gt0.ensures,
    )

pub overflow_sub-size : goal.overflow_sub-size
overflow_sub-size c = omega (arith, c.loop-i.invariant.1.small, c.block_bytes-size.ensures)

pub overflow_add-rest : goal.overflow_add-rest
overflow_add-rest c =
    let z = sized c.args.state.family c.block_bytes-size.ensures in
    let w = taken c.min-count.ensures c.loop-i-test.true c.loop-i.invariant.1.small c.block_bytes-size.ensures in
    omega (arith, w.2, z)

pub overflow_add-i : goal.overflow_add-i
overflow_add-i c =
    let w = taken c.min-count.ensures c.loop-i-test.true c.loop-i.invariant.1.small c.block_bytes-size.ensures in
    omega (arith, w.1)

pub overflow_add-compressed-then-rest-size : goal.overflow_add-compressed-then-rest-size
overflow_add-compressed-then-rest-size c =
    let full : length c.args.state.held ≡ 128 = c.well_formed.1.0.1.1.1.1.1.1.1.1.0.1.0.1 in
    let ok : Sound c.args.state = sound _ c.requires.0 in
    let counted : c.loop-i.compressed ≤ c.args.state.covered.0 + c.loop-i.i = omega (arith, compressed_max c.args.state ok full c.loop-i.invariant.1, length-take c.loop-i.i c.args.bytes.now) in
    omega (arith, c.requires.1, counted)

pub loop-i-smaller-then-rest-size : goal.loop-i-smaller-then-rest-size
loop-i-smaller-then-rest-size c =
    let w = taken c.min-count.ensures c.loop-i-test.true c.loop-i.invariant.1.small c.block_bytes-size.ensures in
    omega (arith, w)

pub loop-i-preserved-then-rest-size : goal.loop-i-preserved-then-rest-size
loop-i-preserved-then-rest-size c =
    let cut : c.loop-i.i + c.min-count.result - c.loop-i.i ≡ c.min-count.result = omega arith in
    let full : length c.args.state.held ≡ 128 = c.well_formed.1.0.1.1.1.1.1.1.1.1.0.1.0.1 in
    let ok : Sound c.args.state = sound _ c.requires.0 in
    let w = taken c.min-count.ensures c.loop-i-test.true c.loop-i.invariant.1.small c.block_bytes-size.ensures in (
      w.1,
      next_block c.args.state ok full _ _ _ w.1 c.loop-i.invariant.1 c.block_bytes-size.ensures (rw cut at c.take_in-held.ensures) c.if-rest-size.true c.requires.1
          c.advance-reached.ensures c.block.ensures,
    )

pub loop-i-smaller : goal.loop-i-smaller
loop-i-smaller c =
    let w = taken c.min-count.ensures c.loop-i-test.true c.loop-i.invariant.1.small c.block_bytes-size.ensures in
    omega (arith, w)

pub loop-i-preserved : goal.loop-i-preserved
loop-i-preserved c =
    let cut : c.loop-i.i + c.min-count.result - c.loop-i.i ≡ c.min-count.result = omega arith in
    let full : length c.args.state.held ≡ 128 = c.well_formed.1.0.1.1.1.1.1.1.1.1.0.1.0.1 in
    let ok : Sound c.args.state = sound _ c.requires.0 in
    let w = taken c.min-count.ensures c.loop-i-test.true c.loop-i.invariant.1.small c.block_bytes-size.ensures in
    (w.1, next_more c.args.state ok full _ _ _ w.1 c.loop-i.invariant.1 c.block_bytes-size.ensures (rw cut at c.take_in-held.ensures) w.2 c.if-rest-size.false)

pub reach-requires : goal.reach-requires
reach-requires c = c.requires.1

pub returns : goal.returns
returns c =
    let full : length c.args.state.held ≡ 128 = c.well_formed.1.0.1.1.1.1.1.1.1.1.0.1.0.1 in
    let ok : Sound c.args.state = sound _ c.requires.0 in
    rw c.reach.ensures (mid_end c.args.state ok full (rw (take_all _ _ c.loop-i-test.false) at c.loop-i.invariant.1))
