-- The tests are the rule's, in its order, and the keyed state is made from the padded key.
use mathlib.Core.Path.{◌≡◌}
use mathlib.Core.Bool.{true}
use native.Mathlib.Omega.{arith}
use Rattle.answers.proofs.Tests.{fell, held}
use Rattle.answers.proofs.Handing.{refused_by, made_by}
use Rattle.keyed_state.specs.Keyed.{tag_length}
use Rattle.keyed.proofs.Tags.{opened_keyed}
use Rattle.keyed.proofs.Answers.{tag_allowed, begin_length, begin_long, begin_in}
use Rattle.keyed.proofs.calls.begun.Goals as goal

pub returns-then-not-is_tag_length : goal.returns-then-not-is_tag_length
returns-then-not-is_tag_length c = refused_by _ (begin_length _ _ (fell c.is_tag_length.ensures c.if-not-is_tag_length.true))

pub returns-then-key-gt-KEY_LIMIT : goal.returns-then-key-gt-KEY_LIMIT
returns-then-key-gt-KEY_LIMIT c =
    let ok : tag_length c.args.m ≡ true = held c.is_tag_length.ensures c.if-not-is_tag_length.false in
    refused_by _ (begin_long _ _ ok c.if-key-gt-KEY_LIMIT.true)

pub invariant_of-hash : goal.invariant_of-hash
invariant_of-hash c = record { known = tag_allowed _ (held c.is_tag_length.ensures c.if-not-is_tag_length.false) }

pub padded-padded-requires : goal.padded-padded-requires
padded-padded-requires c = omega (arith, c.if-key-gt-KEY_LIMIT.false)

pub returns : goal.returns
returns c =
    let ok : tag_length c.args.m ≡ true = held c.is_tag_length.ensures c.if-not-is_tag_length.false in
    let a = c.args in
    made_by (begin_in _ _ ok c.if-key-gt-KEY_LIMIT.false)
    (opened_keyed a.m a.key.now (tag_allowed _ ok) c.padded-padded.ensures c.opened-inner.ensures)
