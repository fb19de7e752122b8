-- How far reading goes: 38,440 bytes at the most. So a program that reads one byte more, and no further, finds in a longer log the same refusal at the same place.
use mathlib.Core.Path.{◌≡◌, refl, sym, ◌∙◌}
use mathlib.Core.Bool.{true}
use mathlib.Core.List.{List}
use Prim.Native.Nat.{ℕ, zero, suc, ◌+◌, ◌*◌, ◌≤◌, ◌<◌}
use native.Mathlib.Omega.{arith}
use native.Mathlib.Decide.{dec_lt}
use lib.Dec.{leb}
use lib.ListN.{length, take}
use lib.Seq.{length-take-le, take_all, take-take}
use borrow.Author.Tests.{leb-true}
use Rattle.answers.proofs.Tests.{and_right}
use Rattle.answers.specs.declared.refusal.Refusal.{Refusal}
use Rattle.log_answers.specs.declared.reading.Layout.{Layout}
use Rattle.fields.specs.Fields.{number_at}
use Rattle.layout.specs.Layout.{reading_of}
use Rattle.layout.proofs.Sections.{which, one_most}
use Rattle.bad_logs.specs.Steps.{Next, salt, salt_bytes, registers, register_bytes, events, event, claims, claim_bytes, end, size, good, left, after, Reached, start, onward, Bad, cut, wrong, extra}
use Rattle.bad_logs.proofs.Reach.{number_same, steady, reached_same, bad_refused, refused_bad, whole_reached}
use Rattle.std.specs.Prelude.{Result, Ok, Err}
use Rattle.log_answers.specs.declared.reading.Fault.{Fault}
use Rattle.log_answers.specs.Reading.{fault}

-- how many bytes there can be from each part on
abbrev most_claims : ℕ → ℕ
most_claims r = 2 + 32 * r

abbrev most_events : ℕ → ℕ
most_events r = 2 + (36 * 1024 + most_claims r)

abbrev most_registers : ℕ
most_registers = 2 + (32 * 24 + most_events 24)

abbrev most : Next → ℕ
most salt = 2 + (32 + most_registers)
most (salt_bytes n) = 1 * n + most_registers
most registers = most_registers
most (register_bytes r) = 32 * r + most_events r
most (events r) = most_events r
most (event r n) = 36 * suc n + most_claims r
most (claims r) = most_claims r
most (claim_bytes n) = 32 * n
most end = 0

most_left : (r n : ℕ) → most (left r n) ≡ 36 * n + most_claims r
most_left r zero = omega arith
most_left r (suc n) = refl

most_after : (s : Next) (n : ℕ) → good s n ≡ true → size s + most (after s n) ≤ most s
most_after salt n g = omega (arith, one_most n 0 32 (which n 0 32 g))
most_after (salt_bytes k) n g = omega arith
most_after registers n g = omega (arith, leb-true n 24 (and_right (leb 1 n) (leb n 24) g))
most_after (register_bytes r) n g = omega arith
most_after (events r) n g = omega (arith, most_left r n, leb-true n 1024 g)
most_after (event r k) n g = omega (arith, most_left r k)
most_after (claims r) n g = omega (arith, one_most n 0 r (which n 0 r g))
most_after (claim_bytes k) n g = omega arith
most_after end n g = omega arith

most_size : (s : Next) → size s ≤ most s
most_size salt = omega arith
most_size (salt_bytes k) = omega arith
most_size registers = omega arith
most_size (register_bytes r) = omega arith
most_size (events r) = omega arith
most_size (event r k) = omega arith
most_size (claims r) = omega arith
most_size (claim_bytes k) = omega arith
most_size end = omega arith

reached_most : (log : List ℕ) {i : ℕ} {s : Next} → Reached log i s → i + most s ≤ 38440
reached_most log start = omega arith
reached_most log (onward {i} {s} p h g) = omega (arith, reached_most log p, most_after s (number_at log i) g)

-- the part that stands next ends by then
pub reached_part : (log : List ℕ) {i : ℕ} {s : Next} → Reached log i s → i + size s ≤ 38440
reached_part log {i} {s} p = omega (arith, reached_most log p, most_size s)

-- An accepted log has at most 38,440 bytes; a log of that size is run (samples/longest.log).
pub accepted_size : (log : List ℕ) (at : Layout) → reading_of log ≡ Ok at → length log ≤ 38440
accepted_size log at e = omega (arith, reached_part log (whole_reached log at e))

-- No refusal has its place past byte 38,440.
pub refused_place : (log : List ℕ) (r : Refusal) (o : ℕ) → reading_of log ≡ Err (fault r o) → o ≤ 38440
refused_place log r o e = by (refused_bad log r o e)
  where
    by : {r : Refusal} {o : ℕ} → Bad log r o → o ≤ 38440
    by (cut p h) = omega (arith, reached_part log p)
    by (wrong p h g) = omega (arith, reached_part log p)
    by (extra p h) = omega (arith, reached_part log p)

module _ (log : List ℕ) (n : ℕ) (enough : 38441 ≤ n) where
  bad_same : {r : Refusal} {o : ℕ} → n < length log → Bad log r o → reading_of (take n log) ≡ Err (fault r o)
  bad_same long (cut p h) = absurd (omega (arith, reached_part log p))
  bad_same long (wrong {i} {s} p h g) =
      let l = length-take-le n log (omega arith) in
      let b = reached_part log p in
      let same = take-take n n log (omega arith) in
      let fine = steady s (number_at (take n log) i) (number_at log i) (λ two. number_same log (take n log) n i (omega arith) (omega arith) same) in
      bad_refused (take n log) (wrong (reached_same log (take n log) p (take-take i n log (omega arith))) (omega arith) (fine.0 ∙ g))
  bad_same long (extra {i} p h) =
      let l = length-take-le n log (omega arith) in
      let b = reached_part log p in
      bad_refused (take n log) (extra (reached_same log (take n log) p (take-take i n log (omega arith))) (omega arith))

  -- The first 38,441 bytes of a log, or more of them, are read as the whole log is.
  pub far_reading : reading_of (take n log) ≡ reading_of log
  far_reading = elim (dec_lt n (length log)) [
    | no h ↦ rw (take_all n log (omega arith))
    | yes h ↦ by h (reading_of log) refl
  ]
    where
      by : n < length log → (x : Result Layout Fault) → reading_of log ≡ x → reading_of (take n log) ≡ reading_of log
      by long (Ok at) e = absurd (omega (arith, accepted_size log at e))
      by long (Err f) e = bad_same long (refused_bad log f.refusal f.offset e) ∙ sym e
