-- The count, and the words behind it.
use native.Mathlib.Omega.{arith}
use lib.ListN.{length-take}
use Rattle.family.proofs.Sizes.{words_max}
use Rattle.saved_form.proofs.Bounds.{chain_max}
use Rattle.saving.proofs.Putting.{chain_put}
use Rattle.saving.proofs.put_chain.Goals as goal

pub overflow_add-at : goal.overflow_add-at
overflow_add-at c = omega (arith, c.chain_place-at.ensures, chain_max c.args.family)

pub slice_bounds-chain-end : goal.slice_bounds-chain-end
slice_bounds-chain-end c = omega (arith, c.chain_words-count.ensures, words_max c.args.family)

pub slice_bounds-put_words-end : goal.slice_bounds-put_words-end
slice_bounds-put_words-end c =
    let n = c.chain_words-count.result in
    omega (arith, length-take n c.args.chain, c.well_formed.1.1.0.1.0.1, c.chain_words-count.ensures, words_max c.args.family)

pub returns : goal.returns
returns c =
    let a = c.args in
    chain_put a.out.now a.family a.chain c.chain_place-at.ensures c.chain_words-count.ensures c.put_number.ensures c.put_words.ensures
