-- The tests are the rule's, in its order, and the form is put where it fits.
-- the lengths that the type tells
use mathlib.Core.Path.{◌≡◌, ap}
use mathlib.Core.Bool.{true}
use Rattle.state.specs.State.{consistent_of}
use Rattle.answers.proofs.Tests.{fell, held}
use Rattle.saved_form.specs.Sized.{Sized}
use Rattle.saving.specs.Calls.{Saved}
use Rattle.saving.proofs.Answers.{save_not, save_refused, save_short, save_done}
use Rattle.saving.proofs.write.Goals as goal

pub returns-then-not-consistent : goal.returns-then-not-consistent
returns-then-not-consistent c =
    let o = c.args.out.now in let both = save_refused _ o (save_not _ o (fell c.consistent.ensures c.if-not-consistent.true)) in
    record { result = ap (λ (h : Saved). h.answer) both.0; buffer = both.1 }

pub form_bytes-size-requires : goal.form_bytes-size-requires
form_bytes-size-requires c =
    let sized : Sized c.args.state =
    record {
      salt = c.well_formed.0.1.1.1.1.0.1.0.1;
      chain = c.well_formed.0.1.1.1.1.1.0.1.0.1;
      held = c.well_formed.0.1.1.1.1.1.1.1.1.0.1.0.1;
    } in
    sized

pub returns-then-out-size : goal.returns-then-out-size
returns-then-out-size c =
    let ok : consistent_of c.args.state ≡ true = held c.consistent.ensures c.if-not-consistent.false in
    let o = c.args.out.now in let both = save_refused _ o (save_short _ o ok c.form_bytes-size.ensures c.if-out-size.true) in
    record { result = ap (λ (h : Saved). h.answer) both.0; buffer = both.1 }

pub put_form-requires : goal.put_form-requires
put_form-requires c =
    let sized : Sized c.args.state =
    record {
      salt = c.well_formed.0.1.1.1.1.0.1.0.1;
      chain = c.well_formed.0.1.1.1.1.1.0.1.0.1;
      held = c.well_formed.0.1.1.1.1.1.1.1.1.0.1.0.1;
    } in
    sized

pub returns : goal.returns
returns c =
    let ok : consistent_of c.args.state ≡ true = held c.consistent.ensures c.if-not-consistent.false in let both = save_done _ c.args.out.now ok c.form_bytes-size.ensures c.if-out-size.false c.put_form.ensures in
    record { result = ap (λ (h : Saved). h.answer) both.0; buffer = both.1 }
