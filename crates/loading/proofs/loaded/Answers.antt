-- The sections' refusal, or what the consistency of the state that was read decides.
use mathlib.Core.Path.{◌≡◌, sym, ◌∙◌}
use Rattle.std.specs.Prelude.{Ok}
use Rattle.std.proofs.lemmas.Result.{err_from_is_err_and}
use Rattle.answers.specs.Refusal.{judged}
use Rattle.answers.proofs.Tests.{fell, held}
use Rattle.answers.proofs.Handing.{refused_by, made_by}
use Rattle.loading.specs.Reading.{form_tests}
use Rattle.loading.proofs.Answers.{load_refused, load_not, load_in}
use Rattle.loading.proofs.loaded.Goals as goal

pub returns-in_err-shape : goal.returns-in_err-shape
returns-in_err-shape c =
    let p = err_from_is_err_and c.from_residual.result c.from_residual.ensures.1 in
    rw (p.1, p.2) (refused_by _ (load_refused _ (sym c.in_err-shape.ensures)))

pub returns-then-not-consistent : goal.returns-then-not-consistent
returns-then-not-consistent c =
    let whole : judged (form_tests c.args.form.now) ≡ Ok tt = sym c.shape.ensures ∙ c.in_ok-shape.was in
    refused_by _ (load_not _ whole (rw c.state_in-state.ensures at (fell c.consistent.ensures c.if-not-consistent.true)))

pub returns : goal.returns
returns c =
    let whole : judged (form_tests c.args.form.now) ≡ Ok tt = sym c.shape.ensures ∙ c.in_ok-shape.was in
    made_by (load_in _ whole (rw c.state_in-state.ensures at (held c.consistent.ensures c.if-not-consistent.false))) c.state_in-state.ensures
