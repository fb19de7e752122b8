use mathlib.Core.Path.{◌≡◌, refl, sym, ◌∙◌}
use mathlib.Core.List.{append-nil}
use Prim.Native.Nat.{◌-◌}
use lib.ListN.{length-set}
use native.Mathlib.Omega.{arith}
use Rattle.text.specs.Digits.{hex_in, upper_of}
use Rattle.text.proofs.Storing.{word_step}
use Rattle.text.proofs.word_digits.Goals as goal

pub loop-i-init : goal.loop-i-init
unfolding upper_of
loop-i-init c = record { room = refl; filled = sym (append-nil _) }

pub loop-i-preserved : goal.loop-i-preserved
loop-i-preserved c =
    let l = c.loop-i in
    record {
      room = length-set l.digits (l.i - 1) c.digit_of.result ∙ l.invariant.room;
      filled = l.invariant.filled ∙ word_step _ l.i l.rest _ (omega (arith, c.loop-i-test.true)) (omega (arith, l.auto.i, l.invariant.room)) c.digit_of.ensures;
    }

pub returns : goal.returns
unfolding hex_in
returns c =
    let l = c.loop-i in
    let z : l.i ≡ 0 = omega (arith, c.loop-i-test.false) in
    sym (rw z at l.invariant.filled)
