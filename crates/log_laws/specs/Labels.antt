-- Boot logs that differ in their events' labels only.
use Rattle.std.specs.Prelude.{◌≡◌, List, ◌⊎◌, ℕ, ◌+◌, ◌*◌, ◌<◌, length, get_or}
use Rattle.fields.specs.Fields.{number_at}

-- where the third count of a log stands, by its first two counts
unfoldable pub third_at : List ℕ → ℕ
third_at log =
    let second : ℕ = 2 + number_at log 0 in
    second + 2 + 32 * number_at log second

-- the place of a label's byte: byte 2 or 3 of one of the N events' 36
pub record LabelByte (log : List ℕ) (i : ℕ) : Type 0 where
  pub event : ℕ
  pub counted : event < number_at log (third_at log)
  pub byte : (i ≡ third_at log + 2 + 36 * event + 2) ⊎ (i ≡ third_at log + 2 + 36 * event + 3)

-- Two logs that differ in labels only: as long as each other, and the same byte at every place that is no label's.
pub record LabelsOnly (log log' : List ℕ) : Type 0 where
  pub size : length log ≡ length log'
  pub same : (i : ℕ) → (LabelByte log i → ⊥) → get_or log i 0 ≡ get_or log' i 0
