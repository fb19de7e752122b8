use Rattle.std.proofs.Common.{◌++◌, List, [], ℕ, sym, ap, ◌∙◌, rules, append_assoc, append-nil}
use Rattle.std.proofs.Output.{has_written_append, has_written_of_eq}
use Rattle.std.proofs.lemmas.List.{nil_from_length}
use Rattle.text.specs.Digits.{hex_of}
use Rattle.text.proofs.Spelling.{hex_append}
use Rattle.streaming.proofs.HexDisplay.fmt.Goals as goal

pub loop-part-init : goal.loop-part-init
unfolding hex_of
loop-part-init g c = λ plain. ([], search rules, search rules)

pub loop-part-preserved : goal.loop-part-preserved
loop-part-preserved g c = λ plain.
    let so_far = c.loop-part.invariant plain in
    let part = c.in-Some.part.now in
    let same = ap (λ (t : List ℕ). hex_of so_far.0 ++ t) c.spelled.ensures ∙ sym (hex_append so_far.0 part) in (
      so_far.0 ++ part,
      has_written_of_eq _ _ _ _ _ same (has_written_append _ _ _ _ _ _ so_far.1 (search rules)),
      append_assoc so_far.0 part _ ∙ ap (λ (t : List ℕ). so_far.0 ++ t) (sym c.in-Some.ensures.steps.1.0) ∙ so_far.2,
    )

pub returns-clause-writes : goal.returns-clause-writes
returns-clause-writes g c = λ plain _.
    let so_far = c.loop-part.invariant plain in
    let none = nil_from_length _ c.in-None.ensures.steps.1.0 in
    has_written_of_eq _ _ _ _ _ (ap hex_of (sym (append-nil so_far.0) ∙ rw none at so_far.2)) so_far.1
