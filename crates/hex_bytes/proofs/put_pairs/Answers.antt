use mathlib.Core.Path.{◌≡◌, refl}
use native.Mathlib.Omega.{arith}
use Rattle.hex_bytes.specs.Hex.{pairs}
use Rattle.hex_bytes.proofs.Digits.{pair_below}
use Rattle.hex_bytes.proofs.Laws.{put_next}
use Rattle.hex_bytes.proofs.put_pairs.Goals as goal

pub loop-i-init : goal.loop-i-init
unfolding pairs
loop-i-init c = refl

pub overflow_mul-out : goal.overflow_mul-out
overflow_mul-out c =
    let l = c.loop-i in
    omega (arith, pair_below c.args.text.now c.requires.0 l.i (omega arith), c.digit-high.ensures, c.digit-low.ensures)

pub overflow_add-out : goal.overflow_add-out
overflow_add-out c =
    let l = c.loop-i in
    omega (arith, pair_below c.args.text.now c.requires.0 l.i (omega arith), c.digit-high.ensures, c.digit-low.ensures)

pub loop-i-preserved : goal.loop-i-preserved
loop-i-preserved c =
    let l = c.loop-i in
    rw l.invariant (put_next c.args.text.now c.args.out.now l.i _ (omega arith) (omega (arith, c.digit-high.ensures, c.digit-low.ensures)))

pub returns : goal.returns
returns c =
    let l = c.loop-i in
    let e : l.i ≡ c.args.count = omega arith in
    rw e at l.invariant
