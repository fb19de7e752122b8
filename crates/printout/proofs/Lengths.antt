-- How long the text can be.
use mathlib.Core.Bool.{Bool, true, false, cond}
use mathlib.Core.List.{List, []}
use Prim.Native.Nat.{ℕ, zero, suc, ◌*◌, ◌/◌, ◌^◌, ◌≤◌, ◌<◌}
use native.Mathlib.Omega.{arith}
use lib.Dec.{eqb}
use lib.ListN.{length, drop, length-append, length-take}
use borrow.Author.Tests.{eq-eqb}
use Rattle.std.specs.Prelude.{Option, Some, None, Result, Ok, Err}
use Rattle.answers.proofs.Numbers.{refusal_small}
use Rattle.answers.specs.Refusal.{refusal_number}
use Rattle.answers.specs.declared.refusal.Refusal.{Refusal}
use Rattle.log_answers.specs.declared.checked.Verdict.{Verdict}
use Rattle.log_answers.specs.declared.checked.Verdict.TheVariants.{NoClaim, Agrees, Differs}
use Rattle.log_answers.specs.declared.checked.Findings.{Findings}
use Rattle.log_answers.specs.declared.checked.Refused.{Refused}
use Rattle.log_answers.specs.Checked.{check_registers}
use Rattle.records.specs.Records.{joined, value_at, extensions_at}
use Rattle.text.specs.Digits.{decimal_in, decimal_of, hex_of}
use Rattle.text.proofs.Storing.{hex_length}
use Rattle.printout.specs.Printout.{verdict_text, register_line, register_lines, spaced, place_text, refusal_line, text_of}

-- a number below 10 ^ d has at most d digits
digits_length : (d k n : ℕ) → n < 10 ^ suc d → length (decimal_in k n) ≤ suc d
unfolding decimal_in
digits_length d zero n h = omega arith
digits_length zero (suc k) n h = rw (eq-eqb (n / 10) 0 (omega arith)) (omega arith)
digits_length (suc d) (suc k) n h =
    let f : length (decimal_in k (n / 10)) ≤ suc d = digits_length d k (n / 10) (omega arith) in
    grind (arith, length-append, shorter (eqb (n / 10) 0) f)
  where
    shorter : (t : Bool) → length (decimal_in k (n / 10)) ≤ suc d → length (cond t [] (decimal_in k (n / 10))) ≤ suc d
    shorter true f = omega arith
    shorter false f = f

decimal_digits : (d n : ℕ) → n < 10 ^ suc d → length (decimal_of n) ≤ suc d
unfolding decimal_of
decimal_digits d n h = digits_length d (suc n) n h

decimal_length : (n : ℕ) → n < 10000 → length (decimal_of n) ≤ 4
decimal_length n h = decimal_digits 3 n h

-- that of a 64-bit number has at most 20
pub decimal_short : (n : ℕ) → n < 2 ^ 64 → length (decimal_of n) ≤ 20
decimal_short n h = decimal_digits 19 n (omega (arith, h))

spaced_length : (n : ℕ) → n < 10000 → length (spaced n) ≤ 5
unfolding spaced
spaced_length n h = grind (arith, length-append, decimal_length n h)

module _ (records : List ℕ) where
  value_length : (r : ℕ) → length (value_at records r) ≤ 32
  unfolding value_at
  value_length r = omega (arith, length-take 32 (drop (34 * r) records))

  pub value_short : (r : ℕ) → length (hex_of (value_at records r)) ≤ 64
  value_short r = omega (arith, hex_length (value_at records r), value_length r)

  line_length : (r : ℕ) → r < 10000 → extensions_at records r < 10000 → length (register_line records r) ≤ 75
  unfolding register_line
  line_length r h g = grind (arith, length-append, spaced_length r h, spaced_length (extensions_at records r) g, value_short r)

  lines_length : (n : ℕ) → n ≤ 10000 → ((r : ℕ) → r < n → extensions_at records r < 10000) → length (register_lines records n) ≤ 75 * n
  unfolding joined
  lines_length zero h g = omega arith
  lines_length (suc n) h g = grind (arith, length-append, lines_length n (omega arith) (λ r p. g r (omega arith)), line_length n (omega arith) (g n (omega arith)))

-- the numbers of an answer are small
abbrev pub Register : Verdict → Type 0
Register NoClaim = Unit {0}
Register Agrees = Unit {0}
Register (Differs r) = r < 24

abbrev pub Low : Option ℕ → Type 0
Low (Some i) = i < 100000
Low None = Unit {0}

abbrev pub Modest : Result Findings Refused → Type 0
Modest (Ok f) = (f.registers ≤ 24) × (f.events ≤ 1024) × (f.blocks ≤ 2048) × Register f.verdict
Modest (Err x) = Low x.place

verdict_length : (v : Verdict) → Register v → length (verdict_text v) ≤ 12
unfolding verdict_text
verdict_length NoClaim h = omega arith
verdict_length Agrees h = omega arith
verdict_length (Differs r) h = omega (arith, decimal_length r (omega arith))

place_length : (p : Option ℕ) → Low p → length (place_text p) ≤ 10
unfolding place_text
place_length (Some i) h = grind (arith, length-append, decimal_digits 4 i h)
place_length None h = omega arith

refusal_length : (x : Refusal) (p : Option ℕ) → Low p → length (refusal_line x p) ≤ 22
unfolding refusal_line
refusal_length x p h =
    let n = refusal_number x in grind (arith, length-append, decimal_length n (omega (arith, refusal_small x)), place_length p h)

pub text_length : (c : Result Findings Refused) (records : List ℕ) → Modest c → ((r : ℕ) → r < check_registers c → extensions_at records r < 10000) → length (text_of c records) ≤ 2048
unfolding text_of
text_length (Ok f) records h g =
    grind (
      arith,
      length-append,
      spaced_length f.registers (omega arith),
      spaced_length f.events (omega arith),
      spaced_length f.blocks (omega arith),
      verdict_length f.verdict h.3,
      lines_length records f.registers (omega arith) g,
    )
text_length (Err x) records h g = omega (arith, refusal_length x.refusal x.place h)
