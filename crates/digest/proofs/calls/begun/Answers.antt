-- The tests are the rule's, in its order, and each way hands back the state that the rule names.
use native.Mathlib.Omega.{arith}
use Rattle.family.proofs.Sizes.{salt_max}
use Rattle.answers.proofs.Tests.{fell, held}
use Rattle.answers.proofs.Handing.{refused_by, made_by}
use Rattle.digest.proofs.Tests.{salt_size}
use Rattle.digest.proofs.Answers.{begin_length, begin_salt, begin_in}
use Rattle.digest.proofs.calls.begun.Goals as goal

pub returns-then-not-is_allowed : goal.returns-then-not-is_allowed
returns-then-not-is_allowed c = refused_by _ (begin_length _ _ (fell c.is_allowed.ensures c.if-not-is_allowed.true))

pub returns-then-not-salt_fits : goal.returns-then-not-salt_fits
returns-then-not-salt_fits c = refused_by _ (begin_salt _ _ (held c.is_allowed.ensures c.if-not-is_allowed.false) c.of.ensures (fell c.salt_fits.ensures c.if-not-salt_fits.true))

pub started-requires : goal.started-requires
started-requires c =
    let f = c.of.result in
    omega (arith, salt_max f, salt_size f c.args.salt.now (held c.salt_fits.ensures c.if-not-salt_fits.false))

pub returns : goal.returns
returns c = made_by (begin_in _ _ (held c.is_allowed.ensures c.if-not-is_allowed.false) c.of.ensures (held c.salt_fits.ensures c.if-not-salt_fits.false)) c.started.ensures
