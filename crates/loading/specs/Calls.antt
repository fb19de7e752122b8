-- Loading as a total function of its input: tests in document 02's order, the answer, and the state handed back.
use Rattle.std.specs.Prelude.{not, List, [], ◌∷◌, ◌++◌, ℕ}
use Rattle.answers.specs.declared.refusal.Refusal.TheVariants.{StateInconsistent}
use Rattle.answers.specs.Refusal.{Answer}
use Rattle.answers.specs.Refusal.{judged, if_accepted}
use Rattle.state.specs.State.{consistent_of, zero_state}
use Rattle.digest.specs.Calls.{Step}
use Rattle.loading.specs.Reading.{form_tests, state_in}

-- load: the form's own, then 4. A refusal hands back the all-zero state of the small family.
unfoldable pub load_answer : List ℕ → Answer
load_answer form = judged (form_tests form ++ ((not (consistent_of (state_in form)), StateInconsistent) ∷ []))

unfoldable pub load_of : List ℕ → Step
load_of form = record { answer = load_answer form; state = if_accepted (load_answer form) (state_in form) zero_state }
