-- The test is the definition's.
use mathlib.Core.Path.{refl}
use Rattle.loading.proofs.Judging.{more_follows, nothing_follows}
use Rattle.loading.proofs.ended.Goals as goal

pub returns-then-end-form : goal.returns-then-end-form
returns-then-end-form c = more_follows _ refl c.if-end-form.true

pub returns : goal.returns
returns c = nothing_follows _ refl c.if-end-form.false
