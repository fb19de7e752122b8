-- The test is the definition's.
use Rattle.loading.proofs.Judging.{family_over, family_known}
use Rattle.loading.proofs.known_family.Goals as goal

pub returns-then-number_at-gt1 : goal.returns-then-number_at-gt1
returns-then-number_at-gt1 c = family_over _ c.number_at.ensures c.if-number_at-gt1.true

pub returns : goal.returns
returns c = family_known _ c.number_at.ensures c.if-number_at-gt1.false
