-- The sections' reading, cut into the table's steps: what comes of a log from a place on, and that one step leads to the next.
use mathlib.Core.Path.{◌≡◌, refl}
use mathlib.Core.Bool.{Bool, true, false, not, cond}
use mathlib.Core.List.{List, [], ◌∷◌}
use Prim.Native.Nat.{ℕ, zero, suc, ◌+◌, ◌*◌, ◌≤◌}
use native.Mathlib.Omega.{arith}
use native.Mathlib.Decide.{dec_lt}
use lib.Dec.{eqb, ltb}
use lib.ListN.{length}
use borrow.Author.Tests.{lt-ltb, le-ltb, lt-leb, le-leb}
use Rattle.answers.specs.declared.refusal.Refusal.{Refusal}
use Rattle.answers.specs.declared.refusal.Refusal.TheVariants.{LogExtent, SectionCount}
use Rattle.fields.specs.Fields.{number_at}
use Rattle.layout.specs.Layout.{end_after, reads, section_end, events_end, salt_count, salt_end, register_count, registers_end, event_section_end, claim_count, claims_end, reading_of}
use Rattle.layout.proofs.Readings as readings
use Rattle.layout.proofs.Sections.{event_short, event_foreign, event_next, event_none, event_section_short, event_section_barred, event_section_events}
use Rattle.bad_logs.specs.Steps.{Next, salt, salt_bytes, registers, register_bytes, events, event, claims, claim_bytes, end, size, good, refusal, left, after}
use Rattle.std.specs.Prelude.{Result, Ok, Err}
use Rattle.log_answers.specs.declared.reading.Layout.{Layout}
use Rattle.log_answers.specs.declared.reading.Fault.{Fault}

-- What comes of a log: it is read, or refused at a place.
pub data Fate : Type 0 where
  read : Fate
  bad : Refusal → ℕ → Fate

abbrev pub fate : Result Layout Fault → Fate
fate (Ok at) = read
fate (Err f) = bad f.refusal f.offset

abbrev goes_on : Result ℕ Fault → (ℕ → Fate) → Fate
goes_on (Ok i) g = g i
goes_on (Err f) g = bad f.refusal f.offset

fate_reads : (p : Result ℕ Fault) (f : ℕ → Result Layout Fault) (g : ℕ → Fate) → ((i : ℕ) → fate (f i) ≡ g i) → fate (reads p f) ≡ goes_on p g
fate_reads (Ok i) f g h = h i
fate_reads (Err x) f g h = refl

fate_end : (log : List ℕ) (second third fourth last : ℕ) (t : Bool) → fate (readings.at_end log second third fourth last t) ≡ cond t read (bad LogExtent last)
fate_end log second third fourth last true = refl
fate_end log second third fourth last false = refl

module _ (log : List ℕ) where
  -- from a section on
  abbrev from_end : ℕ → Fate
  from_end i = cond (eqb (length log) i) read (bad LogExtent i)

  abbrev from_claims : ℕ → ℕ → Fate
  from_claims r i = goes_on (claims_end log r i) from_end

  abbrev from_events : ℕ → ℕ → Fate
  from_events r i = goes_on (event_section_end log r i) (from_claims r)

  abbrev from_registers : ℕ → Fate
  from_registers i = goes_on (registers_end log i) (from_events (number_at log i))

  -- contents of n bytes, and what follows
  abbrev contents : ℕ → (ℕ → Fate) → ℕ → Fate
  contents n f i = cond (ltb (length log) (i + n)) (bad LogExtent (length log)) (f (i + n))

  -- from whatever stands next
  abbrev pub from : Next → ℕ → Fate
  from salt i = goes_on (section_end log i (salt_count (number_at log i)) 1) from_registers
  from (salt_bytes n) i = contents (1 * n) from_registers i
  from registers i = from_registers i
  from (register_bytes r) i = contents (32 * r) (from_events r) i
  from (events r) i = from_events r i
  from (event r n) i = goes_on (events_end log r i (suc n)) (from_claims r)
  from (claims r) i = from_claims r i
  from (claim_bytes n) i = contents (32 * n) from_end i
  from end i = from_end i

  pub reading_from : fate (reading_of log) ≡ from salt 0
  unfolding reading_of salt_end
  reading_from =
      fate_reads (salt_end log) _ from_registers (λ second.
      fate_reads (registers_end log second) _ (from_events (number_at log second)) (λ third.
      fate_reads (event_section_end log (number_at log second) third) _ (from_claims (number_at log second)) (λ fourth.
      fate_reads (claims_end log (number_at log second) fourth) _ from_end (λ last.
      fate_end log second third fourth last (eqb (length log) last)))))

  -- a section is its count, and then its contents
  section_step : (i : ℕ) (allowed : Bool) (k : ℕ) (f : ℕ → Fate)
      → goes_on (section_end log i allowed k) f
      ≡ cond (ltb (length log) (i + 2)) (bad LogExtent (length log)) (cond allowed (contents (k * number_at log i) f (i + 2)) (bad SectionCount i))
  unfolding section_end
  section_step i allowed k f = by (ltb (length log) (i + 2)) allowed (ltb (length log) (i + 2 + k * number_at log i))
    where
      by : (s a t : Bool)
          → goes_on (end_after ((s, LogExtent, length log) ∷ (not a, SectionCount, i) ∷ (t, LogExtent, length log) ∷ []) (i + 2 + k * number_at log i)) f
          ≡ cond s (bad LogExtent (length log)) (cond a (cond t (bad LogExtent (length log)) (f (i + 2 + k * number_at log i))) (bad SectionCount i))
      by true a t = refl
      by false false t = refl
      by false true true = refl
      by false true false = refl

  -- n events are left, and then the claims
  left_from : (r n i : ℕ) → goes_on (events_end log r i n) (from_claims r) ≡ from (left r n) i
  left_from r zero i = rw (event_none log r i 0 (omega arith))
  left_from r (suc n) i = refl

  -- What stands next is not whole, or is good and reading goes on behind it, or is refused at its own place.
  abbrev pub stepped : Next → ℕ → Fate
  stepped s i =
      cond (ltb (length log) (i + size s)) (bad LogExtent (length log)) (cond (good s (number_at log i)) (from (after s (number_at log i)) (i + size s)) (bad (refusal s) i))

  event_step : (r n i : ℕ) → from (event r n) i ≡ stepped (event r n) i
  event_step r n i = elim (dec_lt (length log) (i + 36)) [
    | yes h ↦ rw (event_short log r i (suc n) h (omega arith), lt-ltb (length log) (i + 36) h)
    | no h ↦ elim (dec_lt (number_at log i) r) [
      | yes g ↦ rw (event_next log r i n (omega arith) g, le-ltb (length log) (i + 36) (omega arith), lt-leb r (number_at log i) g) (left_from r n (i + 36))
      | no g ↦
          let b : r ≤ number_at log i = omega arith in
          rw (event_foreign log r i (suc n) (omega arith) b (omega arith), le-ltb (length log) (i + 36) (omega arith), le-leb r (number_at log i) b)
    ]
  ]

  events_step : (r i : ℕ) → from (events r) i ≡ stepped (events r) i
  events_step r i = elim (dec_lt (length log) (i + 2)) [
    | yes h ↦ rw (event_section_short log r i h, lt-ltb (length log) (i + 2) h)
    | no h ↦ elim (dec_lt 1024 (number_at log i)) [
      | yes g ↦ rw (event_section_barred log r i (omega arith) g, le-ltb (length log) (i + 2) (omega arith), lt-leb (number_at log i) 1024 g)
      | no g ↦
          let b : number_at log i ≤ 1024 = omega arith in
          rw (event_section_events log r i (omega arith) b, le-ltb (length log) (i + 2) (omega arith), le-leb (number_at log i) 1024 b) (left_from r (number_at log i) (i + 2))
    ]
  ]

  pub step : (s : Next) (i : ℕ) → i ≤ length log → from s i ≡ stepped s i
  unfolding registers_end claims_end
  step salt i h = section_step i (salt_count (number_at log i)) 1 from_registers
  step (salt_bytes n) i h = refl
  step registers i h = section_step i (register_count (number_at log i)) 32 (from_events (number_at log i))
  step (register_bytes r) i h = refl
  step (events r) i h = events_step r i
  step (event r n) i h = event_step r n i
  step (claims r) i h = section_step i (claim_count r (number_at log i)) 32 from_end
  step (claim_bytes n) i h = refl
  step end i h =
      let z : i + 0 ≡ i = omega arith in
      rw (z, le-ltb (length log) i h)
