-- How long a saved form is, and that a buffer of its family's longest has room for it.
use mathlib.Core.Path.{◌≡◌}
use mathlib.Core.Bool.{true}
use mathlib.Core.List.{List}
use Prim.Native.Nat.{ℕ, ◌+◌, ◌%◌, ◌≤◌}
use native.Mathlib.Omega.{arith}
use lib.ListN.{length}
use borrow.Author.Tests.{le-ltb}
use Rattle.family.specs.declared.Family.{Family}
use Rattle.family.specs.declared.Family.TheVariants.{Small, Large}
use Rattle.family.specs.Family.{block_bytes}
use Rattle.std.specs.Prelude.{Ok}
use Rattle.state.specs.declared.State.{State}
use Rattle.state.specs.State.{consistent_of}
use Rattle.saved_form.specs.Form.{form_of, held_start, longest_form}
use Rattle.saving.specs.Calls.{save_answer}
use Rattle.carried.specs.Stored.{Stored}
use Rattle.saved_form.proofs.Lengths.{rest_below, form_length}

-- the longest form holds all of a block but one byte
longest : (f : Family) → longest_form f + 1 ≡ held_start f + block_bytes f
longest Small = omega arith
longest Large = omega arith

module _ (s : State) (stored : Stored s) where
  pub form_longest : length (form_of s) ≤ longest_form s.family
  form_longest = omega (arith, form_length s stored.sized, rest_below s, longest s.family)

  pub longest_met : s.covered.0 % block_bytes s.family + 1 ≡ block_bytes s.family → length (form_of s) ≡ longest_form s.family
  longest_met h = omega (arith, form_length s stored.sized, longest s.family)

-- A consistent state is saved in a buffer that has room for its family's longest form.
pub longest_room : (s : State) (out : List ℕ) → Stored s → consistent_of s ≡ true → longest_form s.family ≤ length out → save_answer s out ≡ Ok tt
unfolding save_answer
longest_room s out stored h room = rw (h, le-ltb (length out) (length (form_of s)) (omega (arith, form_longest s stored)))
