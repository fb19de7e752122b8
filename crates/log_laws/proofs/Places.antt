-- What the place in a check's answer says: a place is the log's own, and only a short buffer has none.
use mathlib.Core.Path.{◌≡◌, refl, ap, ◌∙◌}
use mathlib.Core.Bool.{Bool, true, false, cond}
use mathlib.Core.List.{List}
use Prim.Native.Nat.{ℕ, ◌*◌}
use native.Mathlib.Omega.{arith}
use lib.Dec.{ltb}
use Rattle.answers.specs.declared.refusal.Refusal.{Refusal}
use Rattle.answers.specs.declared.refusal.Refusal.TheVariants.{BufferShort}
use Rattle.std.specs.Prelude.{Option, None, Result, Ok, Err}
use Rattle.log_answers.specs.declared.reading.Layout.{Layout}
use Rattle.log_answers.specs.declared.reading.Fault.{Fault}
use Rattle.log_answers.specs.declared.checked.Verdict.{Verdict}
use Rattle.log_answers.specs.declared.checked.Findings.{Findings}
use Rattle.log_answers.specs.declared.checked.Refused.{Refused}
use Rattle.log_answers.specs.Checked.{findings, refused}
use Rattle.layout.specs.Layout.{reading_of}
use Rattle.bootlog.specs.Check.{checked_at, check_of}
use Rattle.bootlog.proofs.Verdicts.{check_answer, refused_answer}
use Rattle.log_laws.specs.Places.{Said, read_so, too_short}

-- Where the check is refused at an offset, so is the reading; where it has no place, the log is good and the buffer is short.
pub check_said : (log : List ℕ) (room : ℕ) (r : Refusal) (p : Option ℕ) → check_of log room ≡ Err (refused r p) → Said log r p
unfolding checked_at
check_said log room r p e = by (reading_of log) refl
  where
    same : {x : Refusal} {q : Option ℕ} → Said log x q → ◌≡◌ {A = Result Findings Refused} (Err (refused x q)) (Err (refused r p)) → Said log r p
    same {x} {q} s h =
        let g : refused x q ≡ refused r p = cc in
        let a = ap (λ (y : Refused). y.refusal) g in
        let b = ap (λ (y : Refused). y.place) g in
        rw (a, b) at s

    fits : (at : Layout) → reading_of log ≡ Ok at → (t : Bool) (n k b : ℕ) (v : Verdict)
        → cond t (Err (refused BufferShort None)) (Ok (findings n k b v)) ≡ Err (refused r p) → Said log r p
    fits at w true n k b v h = same (too_short w) h
    fits at w false n k b v h = let z : ◌≡◌ {A = ℕ} 0 1 = cc in absurd (omega arith)

    by : (x : Result Layout Fault) → reading_of log ≡ x → Said log r p
    by (Err f) w = same (read_so w) (refused_answer log f w room ∙ e)
    by (Ok at) w = fits at w (ltb room (34 * at.registers)) _ _ _ _ (check_answer log at w room refl ∙ e)
