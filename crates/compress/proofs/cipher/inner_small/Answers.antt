use mathlib.Core.Path.{sym, ◌≡◌, refl, ◌∙◌}
use native.Mathlib.Omega.{arith}
use Rattle.words.specs.Words.{times}
use Rattle.compress.specs.Cipher.{inner_of}
use Rattle.compress.proofs.Fours.{four_part}
use Rattle.compress.proofs.Growing.{times_more}
use Rattle.compress.proofs.cipher.inner_small.Goals as goal

pub loop-j-init : goal.loop-j-init
unfolding times
loop-j-init c =
    let w = c.subkey-whitening in
    (omega (arith, w.ensures.1), w.ensures.2, refl)

pub loop-j-preserved : goal.loop-j-preserved
loop-j-preserved c =
    let k = c.subkey-key in
    let l = c.loop-j in (
      omega (arith, k.ensures.1, l.invariant.0),
      k.ensures.2 ∙ l.invariant.1,
      rw (c.aes_round-next.ensures, l.invariant.2, k.ensures.0, l.invariant.0, l.invariant.1) (sym (times_more l._j _ c.xored-y.result)),
    )

pub returns : goal.returns
unfolding inner_of
returns c =
    let l = c.loop-j in
    let e : l._j ≡ 2 = omega arith in (
      rw (c.aes_round.ensures, l.invariant.2, e, c.xored-y.ensures, c.subkey-whitening.ensures.0, c.quad.ensures, four_part c.args.h.now c.args.from),
      omega (arith, e, l.invariant.0),
      l.invariant.1,
    )
