-- The sections' answers are the definition's, and the first refusal counts.
use mathlib.Core.Path.{◌≡◌, refl, ◌∙◌, ap}
use Prim.Native.Nat.{◌+◌, ◌≤◌}
use native.Mathlib.Omega.{arith}
use Rattle.std.proofs.lemmas.Result.{err_from_is_err_and}
use Rattle.family.specs.Family.{block_bytes}
use Rattle.saved_form.specs.Form.{held_start}
use Rattle.saved_form.proofs.Bounds.{held_max}
use Rattle.loading.proofs.Bounds.{rest_max}
use Rattle.loading.proofs.Judging.{form_judged}
use Rattle.loading.proofs.shape.Goals as goal

pub section-requires-2 : goal.section-requires-2
section-requires-2 c =
    let placed : c.held_place-at.result ≤ 148 = omega (arith, c.held_place-at.ensures, held_max c.family_in-family.result) in
    let few : c.rest_in-rest.result ≤ 128 = omega (arith, c.rest_in-rest.ensures, rest_max c.args.form.now) in
    (omega (arith, placed), few)

pub overflow_add-at : goal.overflow_add-at
overflow_add-at c =
    let placed : c.held_place-at.result ≤ 148 = omega (arith, c.held_place-at.ensures, held_max c.family_in-family.result) in
    omega (arith, placed)

pub overflow_add-at-2 : goal.overflow_add-at-2
overflow_add-at-2 c =
    let placed : c.held_place-at.result ≤ 148 = omega (arith, c.held_place-at.ensures, held_max c.family_in-family.result) in
    let few : c.rest_in-rest.result ≤ 128 = omega (arith, c.rest_in-rest.ensures, rest_max c.args.form.now) in
    omega (arith, placed, few)

pub returns-in_err-section : goal.returns-in_err-section
returns-in_err-section c =
    let p = err_from_is_err_and c.from_residual.result c.from_residual.ensures.1 in
    rw (p.1, p.2) (form_judged c.args.form.now c.family_in-family.ensures c.rest_in-rest.ensures c.in_err-section.ensures refl refl refl refl refl refl)

pub returns-in_err-known_family : goal.returns-in_err-known_family
returns-in_err-known_family c =
    let p = err_from_is_err_and c.from_residual-in_err-known_family.result c.from_residual-in_err-known_family.ensures.1 in
    rw (p.1, p.2) (form_judged c.args.form.now c.family_in-family.ensures c.rest_in-rest.ensures c.in_ok-section.ensures c.in_err-known_family.ensures refl refl refl refl refl)

pub returns-in_err-salt_section : goal.returns-in_err-salt_section
returns-in_err-salt_section c =
    let p = err_from_is_err_and c.from_residual-in_err-salt_section.result c.from_residual-in_err-salt_section.ensures.1 in
    rw (p.1, p.2) (form_judged c.args.form.now c.family_in-family.ensures c.rest_in-rest.ensures c.in_ok-section.ensures c.in_ok-known_family.ensures c.in_err-salt_section.ensures refl refl refl refl)

pub returns-in_err-chain_section : goal.returns-in_err-chain_section
returns-in_err-chain_section c =
    let p = err_from_is_err_and c.from_residual-in_err-chain_section.result c.from_residual-in_err-chain_section.ensures.1 in
    rw (p.1, p.2) (form_judged c.args.form.now c.family_in-family.ensures c.rest_in-rest.ensures c.in_ok-section.ensures c.in_ok-known_family.ensures c.in_ok-salt_section.ensures c.in_err-chain_section.ensures refl refl refl)

pub returns-in_err-covered_section : goal.returns-in_err-covered_section
returns-in_err-covered_section c =
    let p = err_from_is_err_and c.from_residual-in_err-covered_section.result c.from_residual-in_err-covered_section.ensures.1 in
    rw (p.1, p.2) (form_judged c.args.form.now c.family_in-family.ensures c.rest_in-rest.ensures c.in_ok-section.ensures c.in_ok-known_family.ensures c.in_ok-salt_section.ensures c.in_ok-chain_section.ensures c.in_err-covered_section.ensures refl refl)

pub returns-in_err-section-2 : goal.returns-in_err-section-2
returns-in_err-section-2 c =
    let p = err_from_is_err_and c.from_residual-in_err-section-2.result c.from_residual-in_err-section-2.ensures.1 in
    rw (p.1, p.2) (form_judged c.args.form.now c.family_in-family.ensures c.rest_in-rest.ensures c.in_ok-section.ensures c.in_ok-known_family.ensures c.in_ok-salt_section.ensures c.in_ok-chain_section.ensures c.in_ok-covered_section.ensures (rw c.held_place-at.ensures at c.in_err-section-2.ensures) refl)

pub returns : goal.returns
returns c =
    let end : c.held_place-at.result + 2 + c.rest_in-rest.result ≡ held_start c.family_in-family.result + c.rest_in-rest.result = rw c.held_place-at.ensures in
    form_judged c.args.form.now c.family_in-family.ensures c.rest_in-rest.ensures c.in_ok-section.ensures c.in_ok-known_family.ensures c.in_ok-salt_section.ensures c.in_ok-chain_section.ensures c.in_ok-covered_section.ensures (rw c.held_place-at.ensures at c.in_ok-section-2.ensures) (rw end at c.ended.ensures)
