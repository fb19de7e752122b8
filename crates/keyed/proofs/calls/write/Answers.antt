-- The tests are the rule's, in its order, and the tag is put at the buffer's front.
use mathlib.Core.Path.{◌≡◌, ◌∙◌, ap}
use mathlib.Core.Bool.{true}
use native.Mathlib.Omega.{arith}
use Rattle.answers.proofs.Tests.{fell, held}
use Rattle.keyed_state.specs.Keyed.{keyed_consistent}
use Rattle.keyed_state.proofs.Soundness.{keyed_sound}
use Rattle.keyed.proofs.Tags.{tag_front}
use Rattle.keyed.specs.Calls.{Finished}
use Rattle.keyed.proofs.Answers.{finish_not, finish_refused, finish_short, finished}
use Rattle.keyed.proofs.calls.write.Goals as goal

pub returns-then-not-consistent : goal.returns-then-not-consistent
returns-then-not-consistent c =
    let a = c.args in let both = finish_refused _ a.out.now (finish_not _ a.out.now (fell c.consistent.ensures c.if-not-consistent.true)) in
    record { result = ap (λ (h : Finished). h.answer) both.0; buffer = both.1 }

pub returns-then-out-size : goal.returns-then-out-size
returns-then-out-size c =
    let ok : keyed_consistent c.args.keyed ≡ true = held c.consistent.ensures c.if-not-consistent.false in
    let o = c.args.out.now in let both = finish_refused _ o (finish_short _ o ok c.digest_bytes-size.ensures c.if-out-size.true) in
    record { result = ap (λ (h : Finished). h.answer) both.0; buffer = both.1 }

pub tag_of-tag-requires : goal.tag_of-tag-requires
tag_of-tag-requires c =
    let ok : keyed_consistent c.args.keyed ≡ true = held c.consistent.ensures c.if-not-consistent.false in
    ok

pub overflow_sub-result : goal.overflow_sub-result
overflow_sub-result c =
    let ok : keyed_consistent c.args.keyed ≡ true = held c.consistent.ensures c.if-not-consistent.false in
    omega (arith, c.block_bytes-block.ensures, (keyed_sound _ ok).block)

pub returns : goal.returns
returns c =
    let ok : keyed_consistent c.args.keyed ≡ true = held c.consistent.ensures c.if-not-consistent.false in
    let a = c.args in
    let z = c.digest_bytes-size.ensures in let both = finished _ a.out.now ok z c.if-out-size.false c.block_bytes-block.ensures
    (c.part.ensures ∙ tag_front _ ok z c.tag_of-tag.ensures) c.put_bytes.ensures in
    record { result = ap (λ (h : Finished). h.answer) both.0; buffer = both.1 }
