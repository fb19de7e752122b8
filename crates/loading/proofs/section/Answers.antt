-- The tests are the section's, in the definition's order.
use native.Mathlib.Omega.{arith}
use Rattle.loading.proofs.Judging.{section_short, section_unfit, section_cut, section_whole}
use Rattle.loading.proofs.section.Goals as goal

pub returns-then-form-at : goal.returns-then-form-at
returns-then-form-at c =
    let a = c.args in
    section_short _ a.at a.count a.size (omega arith)

pub returns-then-number_at-count : goal.returns-then-number_at-count
returns-then-number_at-count c =
    let a = c.args in
    section_unfit _ a.at a.count a.size (omega arith) c.number_at.ensures c.if-number_at-count.true

pub returns-then-form-at-2 : goal.returns-then-form-at-2
returns-then-form-at-2 c =
    let a = c.args in
    section_cut _ a.at a.count a.size (omega arith) c.number_at.ensures c.if-number_at-count.false (omega arith)

pub returns : goal.returns
returns c =
    let a = c.args in
    section_whole _ a.at a.count a.size (omega arith) c.number_at.ensures c.if-number_at-count.false (omega arith)
