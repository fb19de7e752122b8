-- The parts are the definition's, each at its place.
use mathlib.Core.Path.{◌∙◌, ap}
use native.Mathlib.Omega.{arith}
use Rattle.family.specs.Family.{block_bytes}
use Rattle.family.proofs.Sizes.{block_pos, words_max}
use Rattle.fields.proofs.Numbers.{number_small}
use Rattle.saved_form.proofs.Bounds.{chain_max, held_max}
use Rattle.loading.proofs.Made.{state_made}
use Rattle.loading.proofs.state_in.Goals as goal

pub overflow_cast-m : goal.overflow_cast-m
overflow_cast-m c = omega (arith, c.number_at-m.ensures, number_small c.args.form.now (λ i. omega (arith, c.shared_slice_known-1.given i)) 2 4)

pub overflow_add-chain_place : goal.overflow_add-chain_place
overflow_add-chain_place c = omega (arith, c.chain_place.ensures, chain_max c.family_in-family.result)

pub chain_in-chain-requires : goal.chain_in-chain-requires
chain_in-chain-requires c =
    let f = c.family_in-family.result in
    (omega (arith, c.chain_place.ensures, chain_max f), omega (arith, c.chain_words.ensures, words_max f))

pub overflow_add-held_place : goal.overflow_add-held_place
overflow_add-held_place c = omega (arith, c.held_place.ensures, held_max c.family_in-family.result)

pub nonzero_div-result : goal.nonzero_div-result
nonzero_div-result c = omega (arith, c.block_bytes.ensures, block_pos c.family_in-family.result)

pub returns : goal.returns
returns c =
    state_made c.args.form.now c.family_in-family.ensures c.number_at-m.ensures c.covered_in-covered.ensures c.block_bytes.ensures c.rest_in.ensures
    c.salt_bytes.ensures c.part.ensures c.filled-salt.ensures
    c.chain_place.ensures c.chain_words.ensures c.chain_in-chain.ensures
    c.held_place.ensures c.part-2.ensures c.filled-held.ensures
