-- The first two tests are the rule's; the others, and the digest from the starting value, are those of hash.
use mathlib.Core.Path.{◌≡◌}
use mathlib.Core.Bool.{true}
use native.Mathlib.Omega.{arith}
use Rattle.state.specs.State.{allowed}
use Rattle.digest.specs.Calls.{salt_fits}
use Rattle.family.proofs.Sizes.{salt_max}
use Rattle.answers.proofs.Tests.{fell, held}
use Rattle.digest.proofs.Tests.{salt_size}
use Rattle.digest.proofs.Answers.{shot_refused, shot_length, shot_salt, shot}
use Rattle.digest.proofs.calls.one_shot.Goals as goal

pub returns-then-not-is_allowed : goal.returns-then-not-is_allowed
returns-then-not-is_allowed c =
    let a = c.args in let both = shot_refused _ _ _ a.last a.out.now (shot_length a.m a.salt.now a.bytes.now a.last a.out.now (fell c.is_allowed.ensures c.if-not-is_allowed.true)) in
    record { result = both.0; buffer = both.1 }

pub returns-then-not-salt_fits : goal.returns-then-not-salt_fits
returns-then-not-salt_fits c =
    let ok : allowed c.args.m ≡ true = held c.is_allowed.ensures c.if-not-is_allowed.false in
    let a = c.args in let both = shot_refused _ _ _ a.last a.out.now
    (shot_salt a.m a.salt.now a.bytes.now a.last a.out.now ok c.of-family.ensures (fell c.salt_fits.ensures c.if-not-salt_fits.true)) in
    record { result = both.0; buffer = both.1 }

pub fill_salt-filled-requires : goal.fill_salt-filled-requires
fill_salt-filled-requires c =
    let salted : salt_fits c.of-family.result c.args.salt.now ≡ true = held c.salt_fits.ensures c.if-not-salt_fits.false in
    let f = c.of-family.result in
    omega (arith, salt_max f, salt_size f c.args.salt.now salted)

pub returns : goal.returns
returns c =
    let ok : allowed c.args.m ≡ true = held c.is_allowed.ensures c.if-not-is_allowed.false in
    let salted : salt_fits c.of-family.result c.args.salt.now ≡ true = held c.salt_fits.ensures c.if-not-salt_fits.false in
    let a = c.args in let both = shot a.m a.salt.now a.bytes.now a.last a.out.now ok c.of-family.ensures salted
    c.fill_salt-filled.ensures c.starting_value-start.ensures c.hash.ensures.result c.hash.ensures.buffer in
    record { result = both.0; buffer = both.1 }
