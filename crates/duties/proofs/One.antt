-- The first duty.
use mathlib.Core.Path.{◌≡◌, refl, ◌∙◌}
use mathlib.Core.Bool.{Bool, true, false, not, cond}
use mathlib.Core.List.Memᴰ
use mathlib.Core.List.{List, [], ◌∷◌, Memᴰ}
use Prim.Native.Nat.{ℕ, ◌+◌, ◌*◌}
use lib.Dec.{ltb}
use lib.ListN.{length}
use native.Mathlib.Omega.{arith}
use borrow.Author.Tests.{lt-leb, ltb-true}
use Rattle.answers.specs.declared.refusal.Refusal.{Refusal}
use Rattle.answers.specs.declared.refusal.Refusal.TheVariants.{DigestLength, SaltSize, MessageLimit, StateInconsistent, BufferShort, BitsUnfit}
use Rattle.answers.specs.Refusal.{Answer}
use Rattle.std.specs.Prelude.{Option, Some, None, Result, Ok, Err}
use Rattle.log_answers.specs.declared.reading.Layout.{Layout}
use Rattle.log_answers.specs.declared.reading.Fault.{Fault}
use Rattle.log_answers.specs.declared.checked.Verdict.{Verdict}
use Rattle.log_answers.specs.declared.checked.Verdict.TheVariants.{NoClaim}
use Rattle.log_answers.specs.declared.checked.Findings.{Findings}
use Rattle.log_answers.specs.declared.checked.Refused as checked
use Rattle.answers.specs.Refusal.{refusal_number, answer_number, if_accepted}
use Rattle.reports.specs.Report.{report_number, reported}
use Rattle.log_answers.specs.Reading.{reading_number, reading_registers, reading_events}
use Rattle.log_answers.specs.Checked as answer
use Rattle.log_answers.specs.Checked.{findings, check_number, check_registers, check_events, check_blocks, check_verdict}
use Rattle.answers.specs.Written.{written_number, written_length, written_if}
use Rattle.family.specs.Family.{family_of}
use Rattle.bits.specs.Bits.{last_fits, digest_bytes}
use Rattle.state.specs.State.{limit, allowed, consistent_of}
use Rattle.digest.specs.Calls.{salt_fits, begin_answer, begin_of, add_answer, add_of, one_shot_answer, one_shot_of, one_shot_buffer}
use Rattle.finishing.specs.Finish.{finish_answer, finish_of, finish_buffer}
use Rattle.saved_form.specs.Form.{form_of}
use Rattle.loading.specs.Reading.{state_in}
use Rattle.saving.specs.Calls.{save_answer, save_of, save_buffer}
use Rattle.loading.specs.Calls.{load_answer, load_of}
use Rattle.layout.specs.Layout.{reading_of}
use Rattle.bootlog.specs.Check.{checked_at, check_of, check_buffer}
use Rattle.bootlog.proofs.Verdicts.{check_answer, check_buffer_lem, refused_answer, refused_buffer}
use Rattle.logger.specs.Write.{write_answer, write_of, write_buffer}
use Rattle.text.specs.Place.{placed}
use Rattle.printout.specs.Printout.{printout_of, print_of}
use Rattle.duties.specs.Asked.{Asked, begin, add, finish, one_shot, save, load, read, check, print, write, answered, listed, StateBack, BufferKept, NothingReported, ValuesZero}
use Rattle.duties.proofs.Numbers.{log_numbers, Read, whole, refused, judged_listed, judged_among, form_among, write_listed, written_number_lem, reported_number, reading_read, reading_listed}

-- A check is refused by the log's reading, or for its buffer, or accepted.
module _ (P : Result Findings checked.Refused → List ℕ → Type 0) (log out : List ℕ)
    (unread : (r : Refusal) (o : ℕ) → Memᴰ (refusal_number r) log_numbers → P (Err (answer.refused r (Some o))) out)
    (short : P (Err (answer.refused BufferShort None)) out)
    (done : (r n b : ℕ) (v : Verdict) (after : List ℕ) → P (Ok (findings r n b v)) after) where
  check_cases : P (check_of log (length out)) (check_buffer log out)
  unfolding checked_at
  check_cases = by (reading_of log) refl (reading_read log)
    where
      room : (t : Bool) (r n b : ℕ) (v : Verdict) (after : List ℕ) → P (cond t (Err (answer.refused BufferShort None)) (Ok (findings r n b v))) (cond t out after)
      room true r n b v after = short
      room false r n b v after = done r n b v after

      by : (x : Result Layout Fault) → reading_of log ≡ x → Read x → P (check_of log (length out)) (check_buffer log out)
      by (Err f) e (refused h) = rw (← refused_answer log f e (length out), ← refused_buffer log f e out) (unread f.refusal f.offset h)
      by (Ok at) e whole = rw (← check_answer log at e (length out) refl, ← check_buffer_lem log at e out refl) (room (ltb (length out) (34 * at.registers)) _ _ _ _ _)

-- a call's number tells its answer
pub not_accepted : {A : Type 0} (a : Answer) (x y : A) → (answer_number a ≡ 0 → ⊥) → if_accepted a x y ≡ y
not_accepted (Ok u) x y h = absurd (h refl)
not_accepted (Err r) x y h = refl

not_reported : (a : Answer) (n c k : ℕ) → (report_number (reported a n c k) ≡ 0 → ⊥) → NothingReported (reported a n c k)
not_reported (Ok u) n c k h = absurd (h refl)
not_reported (Err r) n c k h = (refl, refl, refl)

not_written : (a : Answer) (n : ℕ) → (written_number (written_if a n) ≡ 0 → ⊥) → written_length (written_if a n) ≡ 0
not_written (Ok u) n h = absurd (h refl)
not_written (Err r) n h = refl

-- what a check's refusal leaves
abbrev Left : List ℕ → Result Findings checked.Refused → List ℕ → Type 0
Left out c b = (check_number c ≡ 0 → ⊥) → (b ≡ out) × ((check_registers c ≡ 0) × (check_events c ≡ 0) × (check_blocks c ≡ 0) × (check_verdict c ≡ NoClaim))

-- Every call ends with a listed result on every input, spoiled states and cut logs included.
pub every_call_listed : (c : Asked) → Memᴰ (answered c) (listed c)
unfolding answered listed begin_of begin_answer add_of add_answer finish_of finish_answer one_shot_of one_shot_answer save_of save_answer load_of load_answer print_of write_of
every_call_listed (begin m salt) = judged_listed ((not (allowed m), DigestLength) ∷ (not (salt_fits (family_of m) salt), SaltSize) ∷ [])
every_call_listed (add s xs) = judged_listed ((not (consistent_of s), StateInconsistent) ∷ (ltb limit (s.covered.0 + length xs), MessageLimit) ∷ [])
every_call_listed (finish s last out) =
    rw (reported_number (finish_answer s last out) s.covered.0 last.count _)
    (judged_listed ((not (consistent_of s), StateInconsistent) ∷ (not (last_fits last), BitsUnfit) ∷ (ltb (length out) (digest_bytes s.m), BufferShort) ∷ []))
every_call_listed (one_shot m salt x out) =
    rw (reported_number (one_shot_answer m salt x out) (length x.bytes) x.last.count _)
    (judged_listed (
    (not (allowed m), DigestLength) ∷ (not (salt_fits (family_of m) salt), SaltSize) ∷ (ltb limit (length x.bytes), MessageLimit)
    ∷ (not (last_fits x.last), BitsUnfit) ∷ (ltb (length out) (digest_bytes m), BufferShort) ∷ []
    ))
every_call_listed (save s out) =
    rw (written_number_lem (save_answer s out) (length (form_of s)))
    (judged_listed ((not (consistent_of s), StateInconsistent) ∷ (ltb (length out) (length (form_of s)), BufferShort) ∷ []))
every_call_listed (load form) = judged_among (form_among form (not (consistent_of (state_in form))))
every_call_listed (read log) = reading_listed (reading_read log)
every_call_listed (check log out) =
    check_cases (λ (c : Result Findings checked.Refused) (b : List ℕ). Memᴰ (check_number c) (0 ∷ 6 ∷ 7 ∷ 8 ∷ 5 ∷ [])) log out
    (λ r o m. Memᴰ.tail (Memᴰ.append_left (5 ∷ []) m))
    (Memᴰ.tail (Memᴰ.tail (Memᴰ.tail (Memᴰ.tail (Memᴰ.head refl)))))
    (λ r n b v after. Memᴰ.head refl)
every_call_listed (print log out) = by (ltb (length out) (length (printout_of log)))
  where
    by : (t : Bool) → Memᴰ (written_number (cond t (Err BufferShort) (Ok (length (printout_of log))))) (0 ∷ 5 ∷ [])
    by true = Memᴰ.tail (Memᴰ.head refl)
    by false = Memᴰ.head refl
every_call_listed (write salt starts events wish out) = rw (written_number_lem (write_answer salt starts events wish (length out)) _) (write_listed salt starts events wish (length out))

-- A refusal hands back the state it was given, writes to no lent buffer and answers zero for every other value and count.
pub refusal_leaves : (c : Asked) → (answered c ≡ 0 → ⊥) → StateBack c × BufferKept c × ValuesZero c
unfolding answered StateBack BufferKept ValuesZero begin_of add_of finish_of finish_buffer one_shot_of one_shot_buffer save_of save_buffer load_of print_of placed write_of write_buffer
refusal_leaves (begin m salt) h = (not_accepted (begin_answer m salt) _ _ h, tt, tt)
refusal_leaves (add s xs) h = (not_accepted (add_answer s xs) _ _ h, tt, tt)
refusal_leaves (finish s last out) h =
    let a = finish_answer s last out in
    (refl, not_accepted a _ _ (λ e. h (reported_number a _ _ _ ∙ e)), not_reported a _ _ _ h)
refusal_leaves (one_shot m salt x out) h =
    let a = one_shot_answer m salt x out in
    (tt, not_accepted a _ _ (λ e. h (reported_number a _ _ _ ∙ e)), not_reported a _ _ _ h)
refusal_leaves (save s out) h =
    (refl, not_accepted (save_answer s out) _ _ (λ e. h (written_number_lem (save_answer s out) _ ∙ e)), not_written (save_answer s out) _ h)
refusal_leaves (load form) h = (not_accepted (load_answer form) _ _ h, tt, tt)
refusal_leaves (read log) h = (tt, tt, by (reading_of log) h)
  where
    by : (x : Result Layout Fault) → (reading_number x ≡ 0 → ⊥) → (reading_registers x ≡ 0) × (reading_events x ≡ 0)
    by (Ok at) h = absurd (h refl)
    by (Err f) h = (refl, refl)
refusal_leaves (check log out) h =
    let z = check_cases (Left out) log out (λ r o m h. (refl, (refl, refl, refl, refl))) (λ h. (refl, (refl, refl, refl, refl))) (λ r n b v after h. absurd (h refl)) h in
    (tt, z.0, z.1)
refusal_leaves (print log out) h = let z = by (ltb (length out) (length (printout_of log))) refl h in (tt, z.0, z.1)
  where
    by : (t : Bool) → ltb (length out) (length (printout_of log)) ≡ t → (written_number (cond t (Err BufferShort) (Ok (length (printout_of log)))) ≡ 0 → ⊥)
        → (placed out 0 (printout_of log) ≡ out) × (written_length (cond t (Err BufferShort) (Ok (length (printout_of log)))) ≡ 0)
    by false e h = absurd (h refl)
    by true e h = (rw (lt-leb (0 + length (printout_of log)) (length out) (omega (arith, ltb-true (length out) (length (printout_of log)) e))), refl)
refusal_leaves (write salt starts events wish out) h =
    let a = write_answer salt starts events wish (length out) in
    (tt, not_accepted a _ _ (λ e. h (written_number_lem a _ ∙ e)), not_written a _ h)
