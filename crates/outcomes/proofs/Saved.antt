-- `save` and `load` have only one outcome each: what it answers and the state handed back, and for save the buffer too.
use mathlib.Core.Path.{◌≡◌}
use mathlib.Core.List.{List}
use Prim.Native.Nat.{ℕ}
use Rattle.outcome.specs.Outcome.{OneOutcome}
use Rattle.outcome.proofs.Outcome.{one, one_pair}
use Rattle.state.specs.declared.State.{State}
use Rattle.digest.specs.Calls.{Step}
use Rattle.saving.specs.Calls.{Saved}
use Rattle.saving.specs.Calls.{save_of, save_buffer}
use Rattle.loading.specs.Calls.{load_of}

-- `save`
pub save_one : (s : State) (out : List ℕ) → OneOutcome (λ (o : Saved × List ℕ). (o.0 ≡ save_of s out) × (o.1 ≡ save_buffer s out))
save_one s out = one_pair (save_of s out) (save_buffer s out)

-- `load`
pub load_one : (form : List ℕ) → OneOutcome (λ (r : Step). r ≡ load_of form)
load_one form = one (load_of form)
