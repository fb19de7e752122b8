-- Saving as a total function of its inputs: tests in document 02's order, the result, and what the lent buffer holds afterwards.
use Rattle.std.specs.Prelude.{not, List, [], ◌∷◌, ℕ, ltb, length}
use Rattle.answers.specs.declared.refusal.Refusal.TheVariants.{StateInconsistent, BufferShort}
use Rattle.answers.specs.Refusal.{Answer}
use Rattle.answers.specs.Refusal.{judged}
use Rattle.answers.specs.Written.{written_if, written}
use Rattle.state.specs.declared.State.{State}
use Rattle.state.specs.State.{consistent_of}
use Rattle.answers.specs.declared.handed.Handed.{Handed}
use Rattle.saved_form.specs.Form.{form_of}

-- how many bytes were written or a refusal, and the state handed back
abbrev pub Saved : Type 0
Saved = Handed ℕ State

-- save: 4, 5. It hands back the state that it was given.
unfoldable pub save_answer : State → List ℕ → Answer
save_answer s out = judged ((not (consistent_of s), StateInconsistent) ∷ (ltb (length out) (length (form_of s)), BufferShort) ∷ [])

unfoldable pub save_of : State → List ℕ → Saved
save_of s out = record { answer = written_if (save_answer s out) (length (form_of s)); state = s }

unfoldable pub save_buffer : State → List ℕ → List ℕ
save_buffer s out = written (save_answer s out) (form_of s) out
