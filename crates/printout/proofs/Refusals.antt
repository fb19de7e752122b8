-- The text of a refused log, and that of a log longer than the programs read.
use mathlib.Core.Path.{◌≡◌, refl, sym, ◌∙◌}
use mathlib.Core.List.{List}
use Prim.Native.Nat.{ℕ, ◌≤◌, ◌<◌}
use native.Mathlib.Omega.{arith}
use native.Mathlib.Decide.{dec_lt}
use lib.ListN.{length, take}
use lib.Seq.{take_all}
use Rattle.std.specs.Prelude.{Some, Result, Ok, Err}
use Rattle.answers.specs.declared.refusal.Refusal.{Refusal}
use Rattle.log_answers.specs.declared.reading.Fault.{Fault}
use Rattle.log_answers.specs.declared.reading.Layout.{Layout}
use Rattle.log_answers.specs.Reading.{fault}
use Rattle.layout.specs.Layout.{reading_of}
use Rattle.bad_logs.proofs.Far.{accepted_size, far_reading}
use Rattle.bootlog.proofs.Verdicts.{refused_answer}
use Rattle.printout.specs.Printout.{refusal_line, text_of, printout_of}

-- A log that is refused at an offset is printed with it.
pub refused_printed : (log : List ℕ) (r : Refusal) (o : ℕ) → reading_of log ≡ Err (fault r o) → printout_of log ≡ refusal_line r (Some o)
unfolding printout_of text_of
refused_printed log r o e = rw (← refused_answer log (fault r o) e 816)

-- The programs read 38,441 bytes at the most: what they print of those is what would be printed of the whole log.
pub far_print : (log : List ℕ) (n : ℕ) → 38441 ≤ n → printout_of (take n log) ≡ printout_of log
far_print log n enough = elim (dec_lt n (length log)) [
  | no h ↦ rw (take_all n log (omega arith))
  | yes h ↦ by h (reading_of log) refl
]
  where
    by : n < length log → (x : Result Layout Fault) → reading_of log ≡ x → printout_of (take n log) ≡ printout_of log
    by long (Ok at) e = absurd (omega (arith, accepted_size log at e))
    by long (Err f) e = refused_printed (take n log) f.refusal f.offset (far_reading log n enough ∙ e) ∙ sym (refused_printed log f.refusal f.offset e)
