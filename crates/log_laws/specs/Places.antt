-- What the place in a check's answer says of the log (document 02, Six).
use Rattle.std.specs.Prelude.{◌≡◌, List, ℕ, Option, Some, None, Ok, Err}
use Rattle.answers.specs.declared.refusal.Refusal.{Refusal}
use Rattle.answers.specs.declared.refusal.Refusal.TheVariants.{BufferShort}
use Rattle.log_answers.specs.declared.reading.Layout.{Layout}
use Rattle.log_answers.specs.Reading.{fault}
use Rattle.layout.specs.Layout.{reading_of}

-- A refusal at an offset is the reading's own; one that has no place is 5, of a log that is read whole.
pub data Said (log : List ℕ) : Refusal → Option ℕ → Type 0 where
  read_so : {r : Refusal} {o : ℕ} → reading_of log ≡ Err (fault r o) → Said log r (Some o)
  too_short : {at : Layout} → reading_of log ≡ Ok at → Said log BufferShort None
