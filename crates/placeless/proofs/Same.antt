-- Forgetting the place gives the reading and the check as they were, so the order of the tests is unchanged; buffers, and the text of accepted logs, are what they were.
use mathlib.Core.Path.{◌≡◌, refl, ◌∙◌}
use mathlib.Core.Bool.{Bool, true, false, not, cond}
use mathlib.Core.List.{List, [], ◌∷◌, ◌++◌}
use Prim.Native.Nat.{ℕ, zero, suc, ◌+◌, ◌*◌}
use native.Mathlib.Omega.{arith}
use lib.Dec.{eqb, leb, ltb}
use lib.ListN.{length, drop, replicate}
use Rattle.answers.specs.declared.refusal.Refusal.TheVariants.{BufferShort, LogExtent, SectionCount, EventRegister}
use Rattle.std.specs.Prelude.{None, Result, Ok, Err}
use Rattle.answers.specs.Refusal.{judged}
use Rattle.log_answers.specs.declared.reading.Layout.{Layout}
use Rattle.log_answers.specs.declared.reading.Fault.{Fault}
use Rattle.log_answers.specs.Reading.{fault}
use Rattle.log_answers.specs.declared.checked.Verdict.{Verdict}
use Rattle.log_answers.specs.declared.checked.Findings.{Findings}
use Rattle.log_answers.specs.declared.checked.Refused.{Refused}
use Rattle.log_answers.specs.Checked.{refused_by}
use Rattle.fields.specs.Fields.{number_at}
use Rattle.layout.specs.Layout.{end_after, and_then, reads, section_end, events_end, salt_end, registers_end, event_section_end, claims_end, layout_at, reading_of}
use Rattle.layout.proofs.Readings.{at_end}
use Rattle.bootlog.specs.Check.{log_records, checked_at, check_of, check_buffer}
use Rattle.printout.specs.Printout.{text_of, printout_of}
use Rattle.placeless.specs.Forgotten.{forget_end, forget_reading, forget_checked}
use Rattle.placeless.specs.Before.{EndBefore, stopped, ReadingBefore, whole, unread, accepted, refused, end_if, section_before, events_before, and_then_before, reads_before, reading_before, checked_before, check_before, buffer_before, text_before, printout_before}

-- the reading from each section on
module _ (log : List ℕ) where
  abbrev from_end : ℕ → ℕ → ℕ → ℕ → Result Layout Fault
  from_end second third fourth end = at_end log second third fourth end (eqb (length log) end)

  abbrev from_claims : ℕ → ℕ → ℕ → Result Layout Fault
  from_claims second third fourth = reads (claims_end log (number_at log second) fourth) (from_end second third fourth)

  abbrev from_events : ℕ → ℕ → Result Layout Fault
  from_events second third = reads (event_section_end log (number_at log second) third) (from_claims second third)

  abbrev from_registers : ℕ → Result Layout Fault
  from_registers second = reads (registers_end log second) (from_events second)

module _ (log : List ℕ) where
  section_before_lem : (i : ℕ) (allowed : Bool) (size : ℕ) → forget_end (section_end log i allowed size) ≡ section_before log i allowed size
  unfolding section_end section_before
  section_before_lem i allowed size = by (ltb (length log) (i + 2)) allowed (ltb (length log) (i + 2 + size * number_at log i)) (i + 2 + size * number_at log i)
    where
      by : (s a t : Bool) (j : ℕ) → forget_end (end_after ((s, LogExtent, length log) ∷ (not a, SectionCount, i) ∷ (t, LogExtent, length log) ∷ []) j)
          ≡ end_if (judged ((s, LogExtent) ∷ (not a, SectionCount) ∷ (t, LogExtent) ∷ [])) j
      by true a t j = refl
      by false false t j = refl
      by false true true j = refl
      by false true false j = refl

  events_before_lem : (registers i n : ℕ) → forget_end (events_end log registers i n) ≡ events_before log registers i n
  unfolding events_end events_before
  events_before_lem registers i zero = refl
  events_before_lem registers i (suc n) = by (ltb (length log) (i + 36)) (leb registers (number_at log i)) (events_before_lem registers (i + 36) n)
    where
      by : (s t : Bool) → forget_end (events_end log registers (i + 36) n) ≡ events_before log registers (i + 36) n
          → forget_end (and_then (end_after ((s, LogExtent, length log) ∷ (t, EventRegister, i) ∷ []) (i + 36)) (λ next. events_end log registers next n))
          ≡ elim (judged ((s, LogExtent) ∷ (t, EventRegister) ∷ [])) [ Ok u ↦ events_before log registers (i + 36) n | Err r ↦ stopped r ]
      by true t h = refl
      by false true h = refl
      by false false h = h

  then_before : (p : Result ℕ Fault) (q : EndBefore) (f : ℕ → Result ℕ Fault) (g : ℕ → EndBefore) → forget_end p ≡ q → ((i : ℕ) → forget_end (f i) ≡ g i)
      → forget_end (and_then p f) ≡ and_then_before q g
  then_before (Ok i) q f g e h = rw (← e) (h i)
  then_before (Err x) q f g e h = rw (← e)

  reads_before_lem : (p : Result ℕ Fault) (q : EndBefore) (f : ℕ → Result Layout Fault) (g : ℕ → ReadingBefore) → forget_end p ≡ q → ((i : ℕ) → forget_reading (f i) ≡ g i)
      → forget_reading (reads p f) ≡ reads_before q g
  reads_before_lem (Ok i) q f g e h = rw (← e) (h i)
  reads_before_lem (Err x) q f g e h = rw (← e)

  end_before : (l : Layout) (j : ℕ) (t : Bool)
      → forget_reading (elim t [ true ↦ Ok l | false ↦ Err (fault LogExtent j) ]) ≡ elim t [ true ↦ whole l | false ↦ unread LogExtent ]
  end_before l j true = refl
  end_before l j false = refl

  -- Forgetting the offset gives the reading as it was.
  pub reading_before_lem : forget_reading (reading_of log) ≡ reading_before log
  unfolding reading_of reading_before salt_end registers_end event_section_end claims_end
  reading_before_lem =
      reads_before_lem (salt_end log) _ (from_registers log) _ (section_before_lem 0 _ 1) (λ second.
      reads_before_lem (registers_end log second) _ (from_events log second) _ (section_before_lem second _ 32) (λ third.
      reads_before_lem (event_section_end log (number_at log second) third) _ (from_claims log second third) _
      (then_before (section_end log third _ 0) _ (λ from. events_end log (number_at log second) from (number_at log third)) _ (section_before_lem third _ 0) (λ from. events_before_lem (number_at log second) from (number_at log third)))
      (λ fourth.
      reads_before_lem (claims_end log (number_at log second) fourth) _ (from_end log second third fourth) _ (section_before_lem fourth _ 32) (λ last.
      end_before (layout_at log second third fourth) last (eqb (length log) last)))))

  -- So does forgetting it in the check,
  pub check_before_lem : (room : ℕ) → forget_checked (check_of log room) ≡ check_before log room
  unfolding check_of check_before checked_at checked_before
  check_before_lem room = rw (← reading_before_lem, check_before) (by (reading_of log))
    where
      fits : (t : Bool) (f : Findings) → forget_checked (cond t (Err (record { refusal = BufferShort; place = None })) (Ok f)) ≡ cond t (refused BufferShort) (accepted f.registers f.events f.blocks f.verdict)
      fits true f = refl
      fits false f = refl

      by : (x : Result Layout Fault) → forget_checked (elim x [ Ok l ↦ checked_at log l room | Err f ↦ Err (refused_by f) ])
          ≡ elim (forget_reading x) [ whole l ↦ checked_before log l room | unread r ↦ refused r ]
      by (Ok l) = fits (ltb room (34 * l.registers)) _
      by (Err f) = refl

  -- and the check's buffer is what it was.
  pub buffer_before_lem : (out : List ℕ) → check_buffer log out ≡ buffer_before log out
  unfolding check_buffer buffer_before
  buffer_before_lem out = rw (← reading_before_lem, buffer_before) (by (reading_of log))
    where
      made : Layout → List ℕ
      made l = cond (ltb (length out) (34 * l.registers)) out (log_records log l ++ drop (34 * l.registers) out)

      by : (x : Result Layout Fault) → ◌≡◌ {A = List ℕ} (elim x [ Ok l ↦ made l | Err f ↦ out ]) (elim (forget_reading x) [ whole l ↦ made l | unread r ↦ out ])
      by (Ok l) = refl
      by (Err f) = refl

  -- No accepted log's answer changes, nor its text.
  pub accepted_before : (room r n b : ℕ) (v : Verdict) → check_before log room ≡ accepted r n b v
      → check_of log room ≡ Ok (record { registers = r; events = n; blocks = b; verdict = v })
  accepted_before room r n b v e = by (check_of log room) (check_before_lem room ∙ e)
    where
      by : (c : Result Findings Refused) → forget_checked c ≡ accepted r n b v → c ≡ Ok (record { registers = r; events = n; blocks = b; verdict = v })
      by (Err x) h = let z : ◌≡◌ {A = ℕ} 0 1 = cc in absurd (omega arith)
      by (Ok f) h =
          let e₁ : f.registers ≡ r = cc in
          let e₂ : f.events ≡ n = cc in
          let e₃ : f.blocks ≡ b = cc in
          let e₄ : f.verdict ≡ v = cc in
          rw (← e₁, ← e₂, ← e₃, ← e₄) refl

  pub text_before_lem : {f : Findings} → check_of log 816 ≡ Ok f → printout_of log ≡ printout_before log
  unfolding printout_of printout_before text_of text_before
  text_before_lem e = rw (← check_before_lem 816, ← buffer_before_lem (replicate 816 0), e)
