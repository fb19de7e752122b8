-- What a technician may take from the place of a refusal (document 02, Six), said of logs alone.
use Rattle.std.specs.Prelude.{◌≡◌, false, List, ◌++◌, ◌⊎◌, ℕ, ◌+◌, ◌≤◌, ◌<◌, length, take, Ok, Err}
use Rattle.answers.specs.declared.refusal.Refusal.{Refusal}
use Rattle.answers.specs.declared.refusal.Refusal.TheVariants.{LogExtent, SectionCount, EventRegister}
use Rattle.log_answers.specs.declared.reading.Layout.{Layout}
use Rattle.fields.specs.Fields.{number_at}
use Rattle.layout.specs.Layout.{reading_of}
use Rattle.bad_logs.specs.Steps.{Next, salt, registers, events, event, claims, size, good, Reached}
use Rattle.log_answers.specs.Reading.{fault}

-- These bytes are good as far as they go: some log that begins with them is accepted.
pub record Begins (front : List ℕ) : Type 0 where
  pub more : List ℕ
  pub layout : Layout
  pub accepted : reading_of (front ++ more) ≡ Ok layout

-- one of the four counts
pub data Count : Next → Type 0 where
  of_salt : Count salt
  of_registers : Count registers
  of_events : {r : ℕ} → Count (events r)
  of_claims : {r : ℕ} → Count (claims r)

-- 7 at o: the 2 bytes at o are a count that is not allowed. Everything before o is good, and no bytes behind the count make a difference.
pub record BadCount (log : List ℕ) (o : ℕ) : Type 0 where
  pub which : Next
  pub count : Count which
  pub reached : Reached log o which
  pub there : o + 2 ≤ length log
  pub barred : good which (number_at log o) ≡ false
  pub before : Begins (take o log)
  pub same : (log' : List ℕ) → take (o + 2) log' ≡ take (o + 2) log → reading_of log' ≡ Err (fault SectionCount o)

-- 8 at o: the 2 bytes at o are the register of an event, and there is no such register. Everything before o is good, and no other bytes of the event or behind it
-- make a difference; a log that ends inside the event is cut there instead, since an event's 36 bytes come before its register.
pub record BadRegister (log : List ℕ) (o : ℕ) : Type 0 where
  pub registers : ℕ
  pub behind : ℕ
  pub reached : Reached log o (event registers behind)
  pub there : o + 36 ≤ length log
  pub foreign : registers ≤ number_at log o
  pub before : Begins (take o log)
  pub same : (log' : List ℕ) → take (o + 2) log' ≡ take (o + 2) log → o + 36 ≤ length log' → reading_of log' ≡ Err (fault EventRegister o)
  pub shorter : (log' : List ℕ) → take (o + 2) log' ≡ take (o + 2) log → length log' < o + 36 → reading_of log' ≡ Err (fault LogExtent (length log'))

-- 6 at the log's size: the part that begins at `from` is not whole, or not there at all. Everything before it is good; and some longer log that begins with this one
-- is accepted, or is refused for the count or the register of that part, of which this log has the first byte at least.
pub record Cut (log : List ℕ) : Type 0 where
  pub from : ℕ
  pub part : Next
  pub reached : Reached log from part
  pub inside : length log < from + size part
  pub before : Begins (take from log)
  pub more : List ℕ
  pub longer : 0 < length more
  pub on : ((at : Layout) × (reading_of (log ++ more) ≡ Ok at))
      ⊎ ((r : Refusal) × (from < length log) × ((r ≡ SectionCount) ⊎ (r ≡ EventRegister)) × (reading_of (log ++ more) ≡ Err (fault r from)))

-- 6 before the log's end: the log up to o is accepted, and bytes follow, whatever they are.
pub record Leftover (log : List ℕ) (o : ℕ) : Type 0 where
  pub some : o < length log
  pub layout : Layout
  pub accepted : reading_of (take o log) ≡ Ok layout
  pub same : (log' : List ℕ) → take o log' ≡ take o log → o < length log' → reading_of log' ≡ Err (fault LogExtent o)
