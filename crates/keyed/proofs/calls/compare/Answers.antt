-- The tag is compared with the front of what was made.
use mathlib.Core.Path.{◌≡◌, ap, ◌∙◌}
use mathlib.Core.Bool.{true}
use mathlib.Core.List.{List}
use Prim.Native.Nat.{ℕ}
use Rattle.answers.proofs.Tests.{fell, held}
use Rattle.fields.specs.Fields.{same}
use Rattle.keyed_state.specs.Keyed.{keyed_consistent}
use Rattle.keyed.proofs.Tags.{tag_front}
use Rattle.keyed.proofs.Answers.{check_not, check_made}
use Rattle.keyed.proofs.calls.compare.Goals as goal

pub returns-then-not-consistent : goal.returns-then-not-consistent
returns-then-not-consistent c = check_not _ _ (fell c.consistent.ensures c.if-not-consistent.true)

pub tag_of-right-requires : goal.tag_of-right-requires
tag_of-right-requires c =
    let ok : keyed_consistent c.args.keyed ≡ true = held c.consistent.ensures c.if-not-consistent.false in
    ok

pub returns : goal.returns
returns c =
    let ok : keyed_consistent c.args.keyed ≡ true = held c.consistent.ensures c.if-not-consistent.false in
    let e = tag_front _ ok c.digest_bytes-size.ensures c.tag_of-right.ensures in
    check_made _ _ ok (c.alike.ensures ∙ ap (λ (l : List ℕ). same l c.args.tag.now) (c.part.ensures ∙ e))
