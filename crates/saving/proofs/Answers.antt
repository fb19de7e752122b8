-- What save answers: where a test decides, and where none does.
use mathlib.Core.Path.{◌≡◌, ◌∙◌}
use mathlib.Core.Bool.{true, false}
use mathlib.Core.List.{List}
use Prim.Native.Nat.{ℕ, ◌≤◌, ◌<◌}
use native.Mathlib.Omega.{arith}
use lib.ListN.{length}
use lib.Seq.{sets}
use borrow.Author.Tests.{lt-ltb, le-ltb}
use Rattle.answers.specs.declared.refusal.Refusal.{Refusal}
use Rattle.answers.specs.declared.refusal.Refusal.TheVariants.{StateInconsistent, BufferShort}
use Rattle.std.specs.Prelude.{Ok, Err}
use Rattle.state.specs.declared.State.{State}
use Rattle.state.specs.State.{consistent_of}
use Rattle.saving.specs.Calls.{Saved}
use Rattle.saved_form.specs.Form.{form_of}
use Rattle.saving.specs.Calls.{save_answer, save_of, save_buffer}
use Rattle.fields.proofs.Storing.{sets_front}

-- save
module _ (s : State) (out : List ℕ) where
  pub save_not : consistent_of s ≡ false → save_answer s out ≡ Err StateInconsistent
  unfolding save_answer
  save_not h = rw h

  pub save_refused : {r : Refusal} → save_answer s out ≡ Err r
      → (◌≡◌ {A = Saved} (record { answer = Err r; state = s }) (save_of s out)) × (out ≡ save_buffer s out)
  unfolding save_of save_buffer
  save_refused h = (rw h, rw h)

  module _ (ok : consistent_of s ≡ true) {size : ℕ} (e : size ≡ length (form_of s)) where
    pub save_short : length out < size → save_answer s out ≡ Err BufferShort
    unfolding save_answer
    save_short h = rw (ok, lt-ltb (length out) (length (form_of s)) (omega (arith, e)))

    pub save_done : size ≤ length out → {b : List ℕ} → b ≡ sets out 0 (form_of s)
        → (◌≡◌ {A = Saved} (record { answer = Ok size; state = s }) (save_of s out)) × (b ≡ save_buffer s out)
    unfolding save_of save_buffer save_answer
    save_done h p =
        let room = le-ltb (length out) (length (form_of s)) (omega (arith, e)) in
        (rw (ok, room, e), rw (ok, room) (p ∙ sets_front out (form_of s) (omega (arith, e))))
