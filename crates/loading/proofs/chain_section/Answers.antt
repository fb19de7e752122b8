-- The section's numbers are the family's.
use native.Mathlib.Omega.{arith}
use Rattle.family.proofs.Sizes.{words_max}
use Rattle.saved_form.proofs.Bounds.{chain_max}
use Rattle.loading.proofs.chain_section.Goals as goal

pub overflow_mul-count : goal.overflow_mul-count
overflow_mul-count c = omega (arith, c.chain_words-count.ensures, words_max c.args.family)

pub section-requires : goal.section-requires
section-requires c =
    let f = c.args.family in
    (omega (arith, c.chain_place-at.ensures, chain_max f), omega (arith, c.chain_words-count.ensures, words_max f))

pub returns : goal.returns
returns c = rw (c.chain_place-at.ensures, c.chain_words-count.ensures) at c.section.ensures
