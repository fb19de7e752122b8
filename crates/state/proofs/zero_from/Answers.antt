-- What is gathered of the bytes is zero where each of them is.
use mathlib.Core.Path.{◌≡◌, refl, ap, ◌∙◌}
use Rattle.std.proofs.Common.{rules}
use lib.Bits.{bit_or}
use lib.Dec.{eqb}
use lib.ListN.{drop}
use Rattle.std.specs.List.{fold}
use Rattle.std.proofs.lemmas.Iterator.{YieldsList-from_slice}
use Rattle.std.proofs.lemmas.Iterator.Consumers.{fold_from_yields_List}
use Rattle.state.proofs.Zeros.{rest_is, gathered}
use Rattle.state.proofs.zero_from.Goals as goal

pub returns : goal.returns
returns c =
    let rest = drop c.args.at c.args.s.now in
    let cut : c.iter.result.rest.now ≡ rest = c.iter.ensures.rest ∙ rest_is c.args.s.now c.args.at refl c.min.ensures in
    let e : c.fold.result ≡ fold bit_or 0 rest =
    fold_from_yields_List _ bit_or _ _ c.fold.ensures.ran (YieldsList-from_slice rest cut) (λ a x b q k. search rules) in
    ap (λ n. eqb n 0) e ∙ gathered 0 rest
