-- The tests are the rule's, in its order, and what absorb ensures is the state that the rule names.
use native.Mathlib.Omega.{arith}
use Rattle.state.proofs.Soundness.{sound}
use Rattle.answers.proofs.Tests.{fell, held}
use Rattle.answers.proofs.Handing.{refused_by, made_by}
use Rattle.digest.proofs.Answers.{add_not, add_over, add_in}
use Rattle.digest.proofs.calls.added.Goals as goal

pub returns-then-not-consistent : goal.returns-then-not-consistent
returns-then-not-consistent c = refused_by _ (add_not _ _ (fell c.consistent.ensures c.if-not-consistent.true))

pub overflow_sub-state : goal.overflow_sub-state
overflow_sub-state c = (sound _ (held c.consistent.ensures c.if-not-consistent.false)).within

pub returns-then-bytes-state : goal.returns-then-bytes-state
returns-then-bytes-state c =
    let h = held c.consistent.ensures c.if-not-consistent.false in
    refused_by _ (add_over _ _ h (omega (arith, c.if-bytes-state.true, (sound _ h).within)))

pub absorb-requires : goal.absorb-requires
absorb-requires c =
    let h = held c.consistent.ensures c.if-not-consistent.false in
    (h, omega (arith, c.if-bytes-state.false, (sound _ h).within))

pub returns : goal.returns
returns c =
    let h = held c.consistent.ensures c.if-not-consistent.false in
    made_by (add_in _ _ h (omega (arith, c.if-bytes-state.false, (sound _ h).within))) c.absorb.ensures
