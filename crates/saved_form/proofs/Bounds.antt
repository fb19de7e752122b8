-- How far the places of a form's sections are from its front.
use Prim.Native.Nat.{◌≤◌}
use native.Mathlib.Omega.{arith}
use Rattle.family.specs.declared.Family.{Family}
use Rattle.saved_form.specs.Form.{chain_place, covered_place, held_place}
use Rattle.family.proofs.Sizes.{salt_max, words_max}

pub chain_max : (f : Family) → chain_place f ≤ 72
chain_max f = omega (arith, salt_max f)

pub covered_max : (f : Family) → covered_place f ≤ 138
covered_max f = omega (arith, salt_max f, words_max f)

pub held_max : (f : Family) → held_place f ≤ 148
held_max f = omega (arith, salt_max f, words_max f)
