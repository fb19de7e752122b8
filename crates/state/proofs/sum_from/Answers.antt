-- Each word is below 2^32, so the sum of 16 fits.
use mathlib.Core.Path.{◌≡◌, refl, sym, ◌∙◌}
use Rattle.std.proofs.Common.{rules, tests, arith}
use lib.ListN.{length, drop, length-drop}
use Rattle.std.proofs.lemmas.List.Recursion.{is_sum_by}
use Rattle.std.proofs.lemmas.Iterator.{YieldsList-from_slice, YieldsList-from_map}
use Rattle.std.proofs.lemmas.Iterator.Adapters.{fits_from_length, at_most_from_yields_List}
use Rattle.std.proofs.lemmas.Iterator.Consumers.{sum_by_from_yields_List}
use Rattle.state.specs.Bytes.{sum_of}
use Rattle.state.proofs.Zeros.{rest_is}
use Rattle.state.proofs.sum_from.Goals as goal

pub sum-requires-clause-fits : goal.sum-requires-clause-fits
sum-requires-clause-fits c =
    let rest = drop c.args.at c.args.words in
    let full : length c.args.words ≡ 16 = c.well_formed.0.1.0.1 in
    let cut : c.map.result.iter.rest.now ≡ rest = rw c.map.ensures.source (c.iter.ensures.rest ∙ rest_is c.args.words c.args.at (sym full) c.min.ensures) in
    fits_from_length _ _ 16 _ (at_most_from_yields_List (YieldsList-from_slice rest cut) (omega (arith, length-drop c.args.at c.args.words))) c.map.ensures.closure (omega arith) (λ x r q k. search (rules, tests))

pub returns : goal.returns
unfolding sum_of
returns c =
    let rest = drop c.args.at c.args.words in
    let full : length c.args.words ≡ 16 = c.well_formed.0.1.0.1 in
    let cut : c.map.result.iter.rest.now ≡ rest = rw c.map.ensures.source (c.iter.ensures.rest ∙ rest_is c.args.words c.args.at (sym full) c.min.ensures) in
    sum_by_from_yields_List (λ x. x) rest c.map.result _ c.sum.ensures.ran (YieldsList-from_map _ (λ x. x) (YieldsList-from_slice rest cut) c.map.ensures.closure (λ x r q k. search (rules, tests)))
    ∙ sym (is_sum_by sum_of (λ x. x) refl (λ x xs. refl) rest)
