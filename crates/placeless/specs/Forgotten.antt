-- Answers of today without the place of a refusal.
use Rattle.std.specs.Prelude.{ℕ, Result, Ok, Err}
use Rattle.log_answers.specs.declared.reading.Layout.{Layout}
use Rattle.log_answers.specs.declared.reading.Fault.{Fault}
use Rattle.log_answers.specs.declared.checked.Findings.{Findings}
use Rattle.log_answers.specs.declared.checked.Refused.{Refused}
use Rattle.placeless.specs.Before.{EndBefore, ended, stopped, ReadingBefore, whole, unread, CheckedBefore, accepted, refused}

abbrev pub forget_end : Result ℕ Fault → EndBefore
forget_end (Ok i) = ended i
forget_end (Err f) = stopped f.refusal

abbrev pub forget_reading : Result Layout Fault → ReadingBefore
forget_reading (Ok l) = whole l
forget_reading (Err f) = unread f.refusal

abbrev pub forget_checked : Result Findings Refused → CheckedBefore
forget_checked (Ok f) = accepted f.registers f.events f.blocks f.verdict
forget_checked (Err x) = refused x.refusal
