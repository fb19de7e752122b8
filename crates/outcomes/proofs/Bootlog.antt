-- Each public call of `layout`, `bootlog` and `logger` has only one outcome.
use mathlib.Core.Path.{◌≡◌}
use mathlib.Core.Bool.{Bool}
use mathlib.Core.List.{List}
use Prim.Native.Nat.{ℕ}
use lib.ListN.{length}
use Rattle.outcome.specs.Outcome.{OneOutcome}
use Rattle.outcome.proofs.Outcome.{one, one_pair}
use Rattle.std.specs.Prelude.{Result}
use Rattle.log_answers.specs.declared.reading.Layout.{Layout}
use Rattle.log_answers.specs.declared.reading.Fault.{Fault}
use Rattle.log_answers.specs.declared.checked.Findings.{Findings}
use Rattle.log_answers.specs.declared.checked.Refused.{Refused}
use Rattle.answers.specs.Written.{Written}
use Rattle.layout.specs.Layout.{reading_of}
use Rattle.bootlog.specs.Check.{check_of, check_buffer}
use Rattle.logger.specs.Write.{write_of, write_buffer}

pub read_one : (log : List ℕ) → OneOutcome (λ (r : Result Layout Fault). r ≡ reading_of log)
read_one log = one (reading_of log)

pub check_one : (log out : List ℕ) → OneOutcome (λ (o : Result Findings Refused × List ℕ). (o.0 ≡ check_of log (length out)) × (o.1 ≡ check_buffer log out))
check_one log out = one_pair (check_of log (length out)) (check_buffer log out)

pub write_one : (salt starts events : List ℕ) (wish : Bool) (out : List ℕ)
    → OneOutcome (λ (o : Written × List ℕ). (o.0 ≡ write_of salt starts events wish (length out)) × (o.1 ≡ write_buffer salt starts events wish out))
write_one salt starts events wish out = one_pair (write_of salt starts events wish (length out)) (write_buffer salt starts events wish out)
