-- Slices are equal where their bytes are the same.
use Rattle.std.proofs.lemmas.Bool.Decides.{same_from_decides, Decides-eqb}
use Rattle.std.proofs.lemmas.Slice.Eq.{slice_eq-Decides}
use Rattle.fields.specs.Fields.{same}
use Rattle.fields.proofs.Comparing.{same_self, same_equal}
use Rattle.fields.proofs.same.Goals as goal

pub returns : goal.returns
returns c =
    let a = c.args.a.now in
    let b = c.args.b.now in
    same_from_decides _ (same a b) (slice_eq-Decides Decides-eqb a b _ c.eq.ensures) (same_equal a b, λ e. rw e (same_self b))
