-- What load answers: where a test decides, and where none does.
use mathlib.Core.Path.{◌≡◌}
use mathlib.Core.Bool.{true, false}
use mathlib.Core.List.{List}
use Prim.Native.Nat.{ℕ}
use Rattle.answers.specs.declared.refusal.Refusal.{Refusal}
use Rattle.answers.specs.declared.refusal.Refusal.TheVariants.{StateInconsistent}
use Rattle.std.specs.Prelude.{Ok, Err}
use Rattle.answers.specs.Refusal.{judged}
use Rattle.state.specs.State.{consistent_of}
use Rattle.loading.specs.Reading.{form_tests, state_in}
use Rattle.loading.specs.Calls.{load_answer}
use Rattle.answers.proofs.Judged.{judged_first}

-- load
module _ (form : List ℕ) where
  pub load_refused : {r : Refusal} → judged (form_tests form) ≡ Err r → load_answer form ≡ Err r
  unfolding load_answer
  load_refused h = rw (judged_first (form_tests form), h)

  module _ (whole : judged (form_tests form) ≡ Ok tt) where
    pub load_not : consistent_of (state_in form) ≡ false → load_answer form ≡ Err StateInconsistent
    unfolding load_answer
    load_not h = rw (judged_first (form_tests form), whole, h)

    pub load_in : consistent_of (state_in form) ≡ true → load_answer form ≡ Ok tt
    unfolding load_answer
    load_in h = rw (judged_first (form_tests form), whole, h)
