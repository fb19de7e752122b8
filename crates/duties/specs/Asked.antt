-- Every call of the digest, of its saved forms and of the boot log with what it is given: what it answers, and what a refusal leaves (the letter's first duty).
use Rattle.std.specs.Prelude.{◌≡◌, Bool, List, [], ◌∷◌, ℕ, length}
use Rattle.log_answers.specs.declared.checked.Verdict.TheVariants.{NoClaim}
use Rattle.reports.specs.Report.{Report}
use Rattle.answers.specs.Refusal.{answer_number}
use Rattle.reports.specs.Report.{report_number, report_covered, report_bits, report_blocks}
use Rattle.log_answers.specs.Reading.{reading_number, reading_registers, reading_events}
use Rattle.log_answers.specs.Checked.{check_number, check_registers, check_events, check_blocks, check_verdict}
use Rattle.answers.specs.Written.{written_number, written_length}
use Rattle.bits.specs.declared.LastBits.{LastBits}
use Rattle.bits.specs.Message.{Message}
use Rattle.state.specs.declared.State.{State}
use Rattle.state.specs.State.{zero_state}
use Rattle.digest.specs.Calls.{begin_of, add_of, one_shot_of, one_shot_buffer}
use Rattle.finishing.specs.Finish.{finish_of, finish_buffer}
use Rattle.saving.specs.Calls.{save_of, save_buffer}
use Rattle.loading.specs.Calls.{load_of}
use Rattle.layout.specs.Layout.{reading_of}
use Rattle.bootlog.specs.Check.{check_of, check_buffer}
use Rattle.logger.specs.Write.{write_of, write_buffer}
use Rattle.text.specs.Place.{placed}
use Rattle.printout.specs.Printout.{printout_of, print_of}

-- A call: digest length and salt; state and bytes; state, last bits and buffer; digest length, salt, message and buffer; state and buffer; saved form; log;
-- log and buffer; salt, starting registers, events, wish for claims and buffer.
pub data Asked : Type 0 where
  begin : ℕ → List ℕ → Asked
  add : State → List ℕ → Asked
  finish : State → LastBits → List ℕ → Asked
  one_shot : ℕ → List ℕ → Message → List ℕ → Asked
  save : State → List ℕ → Asked
  load : List ℕ → Asked
  read : List ℕ → Asked
  check : List ℕ → List ℕ → Asked
  print : List ℕ → List ℕ → Asked
  write : List ℕ → List ℕ → List ℕ → Bool → List ℕ → Asked

-- the answer's number, 0 where the call is accepted
unfoldable pub answered : Asked → ℕ
answered (begin m salt) = answer_number (begin_of m salt).answer
answered (add s xs) = answer_number (add_of s xs).answer
answered (finish s last out) = report_number (finish_of s last out).answer
answered (one_shot m salt x out) = report_number (one_shot_of m salt x out)
answered (save s out) = written_number (save_of s out).answer
answered (load form) = answer_number (load_of form).answer
answered (read log) = reading_number (reading_of log)
answered (check log out) = check_number (check_of log (length out))
answered (print log out) = written_number (print_of log (length out))
answered (write salt starts events wish out) = written_number (write_of salt starts events wish (length out))

-- Document 01, "Order: begin 1, 2; add 4, 3", and finish and one-shot with document 02's 11 just before 5: finish 4, 11, 5; one-shot 1, 2, 3, 11, 5. Of a log
-- 6, 7 and 8, then 5. Document 02, One: reader 9, 10, then 4; writer 4, 5. Three: 2, 7, 8, 5. 0 stands for acceptance.
unfoldable pub listed : Asked → List ℕ
listed (begin m salt) = 0 ∷ 1 ∷ 2 ∷ []
listed (add s xs) = 0 ∷ 4 ∷ 3 ∷ []
listed (finish s last out) = 0 ∷ 4 ∷ 11 ∷ 5 ∷ []
listed (one_shot m salt x out) = 0 ∷ 1 ∷ 2 ∷ 3 ∷ 11 ∷ 5 ∷ []
listed (save s out) = 0 ∷ 4 ∷ 5 ∷ []
listed (load form) = 0 ∷ 9 ∷ 10 ∷ 4 ∷ []
listed (read log) = 0 ∷ 6 ∷ 7 ∷ 8 ∷ []
listed (check log out) = 0 ∷ 6 ∷ 7 ∷ 8 ∷ 5 ∷ []
listed (print log out) = 0 ∷ 5 ∷ []
listed (write salt starts events wish out) = 0 ∷ 2 ∷ 7 ∷ 8 ∷ 5 ∷ []

-- It hands back the state it was given; begin and load, which were given none, the all-zero state of the small family.
unfoldable pub StateBack : Asked → Type 0
StateBack (begin m salt) = (begin_of m salt).state ≡ zero_state
StateBack (add s xs) = (add_of s xs).state ≡ s
StateBack (finish s last out) = (finish_of s last out).state ≡ s
StateBack (one_shot m salt x out) = Unit {0}
StateBack (save s out) = (save_of s out).state ≡ s
StateBack (load form) = (load_of form).state ≡ zero_state
StateBack (read log) = Unit {0}
StateBack (check log out) = Unit {0}
StateBack (print log out) = Unit {0}
StateBack (write salt starts events wish out) = Unit {0}

-- It writes to no lent buffer.
unfoldable pub BufferKept : Asked → Type 0
BufferKept (begin m salt) = Unit {0}
BufferKept (add s xs) = Unit {0}
BufferKept (finish s last out) = finish_buffer s last out ≡ out
BufferKept (one_shot m salt x out) = one_shot_buffer m salt x out ≡ out
BufferKept (save s out) = save_buffer s out ≡ out
BufferKept (load form) = Unit {0}
BufferKept (read log) = Unit {0}
BufferKept (check log out) = check_buffer log out ≡ out
BufferKept (print log out) = placed out 0 (printout_of log) ≡ out
BufferKept (write salt starts events wish out) = write_buffer salt starts events wish out ≡ out

-- of a report
abbrev pub NothingReported : Report → Type 0
NothingReported r = (report_covered r ≡ 0) × (report_bits r ≡ 0) × (report_blocks r ≡ 0)

-- It answers zero for every other value and count, and noclaim for the verdict. The place of a log's refusal is no such value: it says where the log went bad
-- (document 02, Six).
unfoldable pub ValuesZero : Asked → Type 0
ValuesZero (begin m salt) = Unit {0}
ValuesZero (add s xs) = Unit {0}
ValuesZero (finish s last out) = NothingReported (finish_of s last out).answer
ValuesZero (one_shot m salt x out) = NothingReported (one_shot_of m salt x out)
ValuesZero (save s out) = written_length (save_of s out).answer ≡ 0
ValuesZero (load form) = Unit {0}
ValuesZero (read log) = (reading_registers (reading_of log) ≡ 0) × (reading_events (reading_of log) ≡ 0)
ValuesZero (check log out) =
    (check_registers (check_of log (length out)) ≡ 0) × (check_events (check_of log (length out)) ≡ 0) × (check_blocks (check_of log (length out)) ≡ 0)
    × (check_verdict (check_of log (length out)) ≡ NoClaim)
ValuesZero (print log out) = written_length (print_of log (length out)) ≡ 0
ValuesZero (write salt starts events wish out) = written_length (write_of salt starts events wish (length out)) ≡ 0
