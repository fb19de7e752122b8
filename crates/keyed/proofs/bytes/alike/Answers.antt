use mathlib.Core.Path.{◌≡◌, ap, ◌∙◌}
use Rattle.std.proofs.Common.{rules}
use lib.Dec.{eqb}
use Rattle.std.specs.List.{fold, zip}
use Rattle.std.proofs.lemmas.Iterator.{YieldsList-from_slice, YieldsList-from_zip}
use Rattle.std.proofs.lemmas.Iterator.Consumers.{fold_from_yields_List}
use Rattle.fields.proofs.Comparing.{same_long}
use Rattle.keyed.proofs.Same.{gather, alike_gathered}
use Rattle.keyed.proofs.bytes.alike.Goals as goal

pub returns-then-a-b : goal.returns-then-a-b
returns-then-a-b c = same_long _ _ c.if-a-b.true

pub returns : goal.returns
returns c =
    let a = c.args.a.now in
    let b = c.args.b.now in
    let e : c.fold.result ≡ fold gather 0 (zip a b) =
    fold_from_yields_List _ gather _ _ c.fold.ensures.ran (YieldsList-from_zip (YieldsList-from_slice a (cc)) (YieldsList-from_slice b (cc))) (λ n x r q k. search rules) in
    ap (λ n. eqb n 0) e ∙ alike_gathered 0 a b c.if-a-b.false
