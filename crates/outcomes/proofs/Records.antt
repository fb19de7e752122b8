-- Each public call of `records` has only one outcome: what is read of a record, or the buffer.
use mathlib.Core.Path.{◌≡◌}
use mathlib.Core.List.{List}
use Prim.Native.Nat.{ℕ, ◌/◌}
use lib.ListN.{length}
use lib.Seq.{sets}
use Rattle.outcome.specs.Outcome.{OneOutcome}
use Rattle.outcome.proofs.Outcome.{one}
use Rattle.records.specs.Events.{event_run}
use Rattle.records.specs.Records.{put_records, value_at, extensions_at, values_in}
use Rattle.outcomes.proofs.Fields.{put_bytes_one}

-- `put`
pub put_one : (out values events : List ℕ) → OneOutcome (λ (b : List ℕ). b ≡ put_records values (event_run events) out)
put_one out values events = one (put_records values (event_run events) out)

-- `value_at`
pub value_at_one : (records : List ℕ) (r : ℕ) → OneOutcome (λ (v : List ℕ). v ≡ value_at records r)
value_at_one records r = one (value_at records r)

-- `extensions_at`
pub extensions_at_one : (records : List ℕ) (r : ℕ) → OneOutcome (λ (n : ℕ). n ≡ extensions_at records r)
extensions_at_one records r = one (extensions_at records r)

-- `put_values`
pub put_values_one : (out : List ℕ) (at : ℕ) (records : List ℕ) → OneOutcome (λ (b : List ℕ). b ≡ sets out at (values_in records (length records / 34)))
put_values_one out at records = put_bytes_one out at (values_in records (length records / 34))
