-- The test is the definition's.
use Rattle.loading.proofs.Judging.{family_small, family_large}
use Rattle.loading.proofs.family_in.Goals as goal

pub returns-then-number_at-eq0 : goal.returns-then-number_at-eq0
returns-then-number_at-eq0 c = family_small _ c.number_at.ensures c.if-number_at-eq0.true

pub returns-else-number_at-eq0 : goal.returns-else-number_at-eq0
returns-else-number_at-eq0 c = family_large _ c.number_at.ensures c.if-number_at-eq0.false
