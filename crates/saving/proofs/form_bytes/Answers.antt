-- The sections' lengths added up.
use mathlib.Core.Path.{sym}
use native.Mathlib.Omega.{arith}
use native.Mathlib.Nat.{mod-lt}
use Rattle.family.proofs.Sizes.{block_pos, block_max}
use Rattle.saved_form.proofs.Bounds.{held_max}
use Rattle.saved_form.proofs.Lengths.{form_length}
use Rattle.saving.proofs.form_bytes.Goals as goal

pub overflow_add-result : goal.overflow_add-result
overflow_add-result c = omega (arith, c.held_place.ensures, held_max c.args.state.family)

pub overflow_add-result-2 : goal.overflow_add-result-2
overflow_add-result-2 c =
    let s = c.args.state in
    omega (arith, c.held_place.ensures, held_max s.family, c.held_bytes.ensures, mod-lt s.covered.0 (block_pos s.family), block_max s.family)

pub returns : goal.returns
returns c = rw (c.held_place.ensures, c.held_bytes.ensures) (sym (form_length c.args.state c.requires))
