use mathlib.Core.Path.{◌≡◌, ap, ◌∙◌}
use Prim.Native.Nat.{◌+◌, ◌*◌, ◌-◌}
use native.Mathlib.Omega.{arith}
use lib.ListN.{drop, get_or}
use borrow.Author.Tests.{eqb-true, eqb-false}
use Rattle.answers.proofs.Tests.{fell, held}
use Rattle.decimal.specs.Decimal.{is_digit, spelled}
use Rattle.decimal.proofs.Digits.{digit_passed, digit_missed, spelled_on, passed_least, digits_end, spelled_end}
use Rattle.decimal.proofs.Cases.{empty, no_digits, over, number}
use Rattle.decimal.proofs.read.Goals as goal

pub returns-then-is_empty : goal.returns-then-is_empty
returns-then-is_empty c = empty _ (eqb-true _ 0 (held c.is_empty.ensures c.if-is_empty.true))

pub returns-then-not-is_ascii_digit : goal.returns-then-not-is_ascii_digit
unfolding is_digit
returns-then-not-is_ascii_digit c =
    let l = c.loop-c in
    let text = c.args.text.now in
    no_digits text (eqb-false _ 0 (fell c.is_empty.ensures c.if-is_empty.false))
    (l.invariant.read ∙ digit_missed text l.c-index c.loop-c-test.true (fell c.is_ascii_digit.ensures.value c.if-not-is_ascii_digit.true))

pub returns-in_err-checked_mul : goal.returns-in_err-checked_mul
returns-in_err-checked_mul c =
    let l = c.loop-c in
    let text = c.args.text.now in
    c.from_residual.ensures ∙ over text (eqb-false _ 0 (fell c.is_empty.ensures c.if-is_empty.false))
    (omega (arith, l.invariant.number, passed_least text l.c-index c.loop-c-test.true l.n, c.in_err-checked_mul.ensures))

pub returns-in_err-n : goal.returns-in_err-n
returns-in_err-n c =
    let l = c.loop-c in
    let text = c.args.text.now in
    c.from_residual-in_err-n.ensures ∙ over text (eqb-false _ 0 (fell c.is_empty.ensures c.if-is_empty.false))
    (omega (arith, l.invariant.number, passed_least text l.c-index c.loop-c-test.true l.n, c.in_ok-checked_mul.ensures, c.from.ensures, c.in_err-n.ensures))

pub loop-c-preserved : goal.loop-c-preserved
unfolding is_digit
loop-c-preserved c =
    let l = c.loop-c in
    let text = c.args.text.now in
    let h = c.loop-c-test.true in
    let e : 10 * l.n + (get_or text l.c-index 0 - 48) ≡ c.in_ok-n.n = omega (arith, c.in_ok-checked_mul.ensures, c.from.ensures, c.in_ok-n.ensures) in
    record {
      fits = omega (arith, c.in_ok-checked_mul.ensures, c.from.ensures, c.in_ok-n.ensures);
      read = l.invariant.read ∙ digit_passed text l.c-index h (held c.is_ascii_digit.ensures.value c.if-not-is_ascii_digit.false);
      number = l.invariant.number ∙ spelled_on text l.c-index h l.n ∙ ap (λ n. spelled n (drop (l.c-index + 1) text)) e;
    }

pub returns : goal.returns
returns c =
    let l = c.loop-c in
    let text = c.args.text.now in
    number text (eqb-false _ 0 (fell c.is_empty.ensures c.if-is_empty.false))
    (l.invariant.read ∙ digits_end text l.c-index (omega arith)) (l.invariant.number ∙ spelled_end text l.c-index (omega arith) l.n) (omega (arith, l.invariant.fits))
