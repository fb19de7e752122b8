-- A chain has at most 16 words, and its place is known.
use native.Mathlib.Omega.{arith}
use Rattle.family.proofs.Sizes.{words_max}
use Rattle.saved_form.proofs.Bounds.{chain_max}
use Rattle.saved_form.proofs.covered_place.Goals as goal

pub overflow_add-result : goal.overflow_add-result
overflow_add-result c = omega (arith, c.chain_place.ensures, chain_max c.args.family)

pub overflow_mul-result : goal.overflow_mul-result
overflow_mul-result c = omega (arith, c.chain_words.ensures, words_max c.args.family)
