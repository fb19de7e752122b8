-- Reading a log step by step: what stands at a place that reading has come to, how many bytes it has, and whether it is good (documents 01, "The boot log", and
-- 02, Six). The same rule as the sections of `layout` give, as one table.
use Rattle.std.specs.Prelude.{◌≡◌, Bool, true, false, not, List, ℕ, zero, suc, ◌+◌, ◌*◌, ◌≤◌, ◌<◌, leb, length}
use Rattle.answers.specs.declared.refusal.Refusal.{Refusal}
use Rattle.answers.specs.declared.refusal.Refusal.TheVariants.{LogExtent, SectionCount, EventRegister}
use Rattle.fields.specs.Fields.{number_at}
use Rattle.layout.specs.Layout.{salt_count, register_count, event_count, claim_count}

-- What is read next: the count of a section; the contents of one whose count was read; an event of a log of R registers, with so many behind it; or nothing.
pub data Next : Type 0 where
  salt : Next
  salt_bytes : ℕ → Next
  registers : Next
  register_bytes : ℕ → Next
  events : ℕ → Next
  event : ℕ → ℕ → Next
  claims : ℕ → Next
  claim_bytes : ℕ → Next
  end : Next

-- how many bytes it has
abbrev pub size : Next → ℕ
size salt = 2
size (salt_bytes n) = 1 * n
size registers = 2
size (register_bytes r) = 32 * r
size (events r) = 2
size (event r n) = 36
size (claims r) = 2
size (claim_bytes n) = 32 * n
size end = 0

-- Whether it is good, by the number in its first 2 bytes: a count that is allowed, a register below R. Contents are always good, and so is the end.
abbrev pub good : Next → ℕ → Bool
good salt n = salt_count n
good (salt_bytes k) n = true
good registers n = register_count n
good (register_bytes r) n = true
good (events r) n = event_count n
good (event r k) n = not (leb r n)
good (claims r) n = claim_count r n
good (claim_bytes k) n = true
good end n = true

-- the refusal where it is not
abbrev pub refusal : Next → Refusal
refusal salt = SectionCount
refusal (salt_bytes k) = LogExtent
refusal registers = SectionCount
refusal (register_bytes r) = LogExtent
refusal (events r) = SectionCount
refusal (event r k) = EventRegister
refusal (claims r) = SectionCount
refusal (claim_bytes k) = LogExtent
refusal end = LogExtent

-- n events are left
abbrev pub left : ℕ → ℕ → Next
left r zero = claims r
left r (suc n) = event r n

-- what is read after it
abbrev pub after : Next → ℕ → Next
after salt n = salt_bytes n
after (salt_bytes k) n = registers
after registers n = register_bytes n
after (register_bytes r) n = events r
after (events r) n = left r n
after (event r k) n = left r k
after (claims r) n = claim_bytes n
after (claim_bytes k) n = end
after end n = end

-- Reading has come to place i, where s stands next: everything before i was read as good.
pub data Reached (log : List ℕ) : ℕ → Next → Type 0 where
  start : Reached log 0 salt
  onward : {i : ℕ} {s : Next} → Reached log i s → i + size s ≤ length log → good s (number_at log i) ≡ true → Reached log (i + size s) (after s (number_at log i))

-- Where a log went bad: the part that stands next is not whole, and the first byte that is missing is behind the log's last; or it is there and not good; or the
-- log does not end where its last section does.
pub data Bad (log : List ℕ) : Refusal → ℕ → Type 0 where
  cut : {i : ℕ} {s : Next} → Reached log i s → length log < i + size s → Bad log LogExtent (length log)
  wrong : {i : ℕ} {s : Next} → Reached log i s → i + size s ≤ length log → good s (number_at log i) ≡ false → Bad log (refusal s) i
  extra : {i : ℕ} → Reached log i end → i < length log → Bad log LogExtent i
