-- Past the keyed state's own test the answer and the inner state are those of the digest's add.
use Rattle.answers.proofs.Tests.{fell, held}
use Rattle.keyed.proofs.Answers.{add_not, add_inner}
use Rattle.keyed.proofs.calls.add.Goals as goal

pub returns-then-not-consistent : goal.returns-then-not-consistent
returns-then-not-consistent c = add_not _ _ (fell c.consistent.ensures c.if-not-consistent.true)

pub returns : goal.returns
returns c = add_inner _ _ (held c.consistent.ensures c.if-not-consistent.false) c.add-step.ensures
