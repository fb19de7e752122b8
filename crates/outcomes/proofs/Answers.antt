-- Each method of an answer has only one outcome: its promise is the value that a definition gives for the answer.
use mathlib.Core.Path.{◌≡◌}
use Prim.Native.Nat.{ℕ}
use Rattle.outcome.specs.Outcome.{OneOutcome}
use Rattle.outcome.proofs.Outcome.{one}
use Rattle.answers.specs.Refusal.{Answer}
use Rattle.answers.specs.declared.refusal.Refusal.{Refusal}
use Rattle.reports.specs.Report.{Report}
use Rattle.std.specs.Prelude.{Result, Option}
use Rattle.log_answers.specs.declared.reading.Layout.{Layout}
use Rattle.log_answers.specs.declared.reading.Fault.{Fault}
use Rattle.log_answers.specs.declared.checked.Verdict.{Verdict}
use Rattle.log_answers.specs.declared.checked.Findings.{Findings}
use Rattle.log_answers.specs.declared.checked.Refused.{Refused}
use Rattle.answers.specs.Written.{Written}
use Rattle.answers.specs.declared.handed.Handed.{Handed}
use Rattle.answers.specs.Refusal.{refusal_number, number_of, answer_number, first_of}
use Rattle.answers.specs.Handed.{handed_over}
use Rattle.log_answers.specs.Place.{place_offset}
use Rattle.log_answers.specs.Reading.{reading_place}
use Rattle.log_answers.specs.Checked.{refused_by, check_place, check_verdict}

-- `Refusal::number`
pub refusal_one : (r : Refusal) → OneOutcome (λ (n : ℕ). n ≡ refusal_number r)
refusal_one r = one (refusal_number r)

-- `number` of any answer
pub any_answer_one : {T : Type 0} (a : Result T Refusal) → OneOutcome (λ (n : ℕ). n ≡ number_of a)
any_answer_one a = one (number_of a)

-- the same of an answer that has no value
pub answer_one : (a : Answer) → OneOutcome (λ (n : ℕ). n ≡ answer_number a)
answer_one a = one (answer_number a)

-- `number`, `covered`, `bits` and `blocks` of a report
pub report_one : (value : Report → ℕ) (x : Report) → OneOutcome (λ (n : ℕ). n ≡ value x)
report_one value x = one (value x)

-- `offset`
pub offset_one : (p : Option ℕ) → OneOutcome (λ (n : ℕ). n ≡ place_offset p)
offset_one p = one (place_offset p)

-- `place` of a reading and of a check
pub reading_place_one : (x : Result Layout Fault) → OneOutcome (λ (p : Option ℕ). p ≡ reading_place x)
reading_place_one x = one (reading_place x)

pub check_place_one : (x : Result Findings Refused) → OneOutcome (λ (p : Option ℕ). p ≡ check_place x)
check_place_one x = one (check_place x)

-- `number`, `registers` and `events` of a reading
pub reading_one : (value : Result Layout Fault → ℕ) (x : Result Layout Fault) → OneOutcome (λ (n : ℕ). n ≡ value x)
reading_one value x = one (value x)

-- `number`, `registers`, `events` and `blocks` of a check
pub checked_one : (value : Result Findings Refused → ℕ) (x : Result Findings Refused) → OneOutcome (λ (n : ℕ). n ≡ value x)
checked_one value x = one (value x)

-- `verdict`
pub verdict_one : (x : Result Findings Refused) → OneOutcome (λ (v : Verdict). v ≡ check_verdict x)
verdict_one x = one (check_verdict x)

-- `number` and `length` of what print and save answer
pub written_one : (value : Written → ℕ) (x : Written) → OneOutcome (λ (n : ℕ). n ≡ value x)
written_one value x = one (value x)

-- `also`
pub also_one : (first next : Answer) → OneOutcome (λ (r : Answer). r ≡ first_of first next)
also_one first next = one (first_of first next)

-- `Handed::of`
pub handed_one : {S : Type 0} (made : Result S Refusal) (given : S) → OneOutcome (λ (h : Handed (Unit {0}) S). h ≡ handed_over made given)
handed_one made given = one (handed_over made given)

-- a reading's fault as the check's refusal
pub fault_one : (f : Fault) → OneOutcome (λ (r : Refused). r ≡ refused_by f)
fault_one f = one (refused_by f)
