-- What is read as good begins an accepted log: zeros, and counts as small as they may be, make one of it.
use mathlib.Core.Path.{◌≡◌, refl, ap, sym, ◌∙◌}
use mathlib.Core.Bool.{true}
use mathlib.Core.List.{List, [], ◌∷◌, ◌++◌, append-nil}
use Prim.Native.Nat.{ℕ, zero, suc, ◌+◌, ◌*◌, ◌≤◌}
use native.Mathlib.Omega.{arith}
use lib.Dec.{leb}
use lib.ListN.{length, take, drop, replicate, length-append, length-drop, length-replicate}
use lib.Seq.{length-take-le, take_at, drop_at}
use borrow.Author.Tests.{leb-true, lt-leb}
use Rattle.answers.proofs.Tests.{and_left}
use Rattle.fields.specs.Fields.{number_in, number_at}
use Rattle.fields.proofs.There.{number_dropped, behind}
use Rattle.bad_logs.specs.Steps.{Next, salt, salt_bytes, registers, register_bytes, events, event, claims, claim_bytes, end, size, good, left, after, Reached, start, onward}
use Rattle.bad_logs.specs.Meaning.{Begins}
use Rattle.bad_logs.proofs.Reach.{reached_bound, reached_same, end_read}

-- two bytes, the low one first
abbrev number : ℕ → List ℕ
number n = n ∷ 0 ∷ []

abbrev zeros : ℕ → List ℕ
zeros n = replicate n 0

-- what makes a whole log from each place on
abbrev rest_claims : List ℕ
rest_claims = number 0

abbrev rest_events : List ℕ
rest_events = number 0 ++ rest_claims

abbrev rest_registers : List ℕ
rest_registers = number 1 ++ (zeros 32 ++ rest_events)

events_rest : ℕ → List ℕ
events_rest zero = rest_claims
events_rest (suc n) = zeros 36 ++ events_rest n

abbrev rest : Next → List ℕ
rest salt = number 0 ++ rest_registers
rest (salt_bytes n) = zeros (1 * n) ++ rest_registers
rest registers = rest_registers
rest (register_bytes r) = zeros (32 * r) ++ rest_events
rest (events r) = rest_events
rest (event r n) = events_rest (suc n)
rest (claims r) = rest_claims
rest (claim_bytes n) = zeros (32 * n)
rest end = []

-- a log has a register, so that the number 0 is one
abbrev Some : Next → Type 0
Some salt = Unit {0}
Some (salt_bytes n) = Unit {0}
Some registers = Unit {0}
Some (register_bytes r) = 1 ≤ r
Some (events r) = 1 ≤ r
Some (event r n) = 1 ≤ r
Some (claims r) = Unit {0}
Some (claim_bytes n) = Unit {0}
Some end = Unit {0}

left_some : (r n : ℕ) → 1 ≤ r → Some (left r n)
left_some r zero h = tt
left_some r (suc n) h = h

after_some : (s : Next) (n : ℕ) → good s n ≡ true → Some s → Some (after s n)
after_some salt n g h = tt
after_some (salt_bytes k) n g h = tt
after_some registers n g h = leb-true 1 n (and_left (leb 1 n) (leb n 24) g)
after_some (register_bytes r) n g h = h
after_some (events r) n g h = left_some r n h
after_some (event r k) n g h = left_some r k h
after_some (claims r) n g h = tt
after_some (claim_bytes k) n g h = tt
after_some end n g h = tt

reached_some : (log : List ℕ) {i : ℕ} {s : Next} → Reached log i s → Some s
reached_some log start = tt
reached_some log (onward {i} {s} p h g) = after_some s (number_at log i) g (reached_some log p)

module _ (log : List ℕ) where
  -- one part, and what follows it
  on : (s : Next) (i n : ℕ) (front back : List ℕ) → Reached log i s → drop i log ≡ front ++ back → length front ≡ size s → number_at (front ++ back) 0 ≡ n → good s n ≡ true
      → (Reached log (i + size s) (after s n)) × (drop (i + size s) log ≡ back)
  on s i n front back p d l e g =
      let z : i + 0 ≡ i = omega arith in
      let number : number_at log i ≡ n = rw z at (sym (number_dropped 2 log i 0)) ∙ ap (λ (l : List ℕ). number_at l 0) d ∙ e in
      let fits : i + size s ≤ length log = omega (arith, reached_bound log p, length-drop i log, ap length d, length-append front back, l) in
      (rw number at (onward p fits (rw number g)), behind log i (size s) front back l d)

  -- the log that is made so is read to its end
  ends_end : (i : ℕ) → Reached log i end → drop i log ≡ [] → Reached log (length log) end
  ends_end i p d =
      let z : i ≡ length log = omega (arith, reached_bound log p, length-drop i log, ap length d) in
      rw z at p

  ends_claims : (r i : ℕ) → Reached log i (claims r) → drop i log ≡ rest_claims → Reached log (length log) end
  unfolding number_in
  ends_claims r i p d =
      let a = on (claims r) i 0 (number 0) [] p d refl refl refl in
      let b = on (claim_bytes 0) (i + 2) 0 [] [] a.0 a.1 refl refl refl in
      ends_end (i + 2 + 32 * 0) b.0 b.1

  ends_left : (r n i : ℕ) → 1 ≤ r → Reached log i (left r n) → drop i log ≡ events_rest n → Reached log (length log) end
  unfolding number_in events_rest
  ends_left r zero i h p d = ends_claims r i p d
  ends_left r (suc n) i h p d =
      let a = on (event r n) i 0 (zeros 36) (events_rest n) p d refl refl (rw (lt-leb r 0 (omega arith))) in
      ends_left r n (i + 36) h a.0 a.1

  ends_events : (r i : ℕ) → Reached log i (events r) → drop i log ≡ rest_events → Reached log (length log) end
  unfolding number_in
  ends_events r i p d =
      let a = on (events r) i 0 (number 0) rest_claims p d refl refl refl in
      ends_claims r (i + 2) a.0 a.1

  ends_contents : (r i : ℕ) → Reached log i (register_bytes r) → drop i log ≡ zeros (32 * r) ++ rest_events → Reached log (length log) end
  ends_contents r i p d =
      let a = on (register_bytes r) i _ (zeros (32 * r)) rest_events p d (length-replicate (32 * r) 0) refl refl in
      ends_events r (i + 32 * r) a.0 a.1

  ends_registers : (i : ℕ) → Reached log i registers → drop i log ≡ rest_registers → Reached log (length log) end
  unfolding number_in
  ends_registers i p d =
      let a = on registers i 1 (number 1) (zeros 32 ++ rest_events) p d refl refl refl in
      ends_contents 1 (i + 2) a.0 a.1

  ends_salt : (n i : ℕ) → Reached log i (salt_bytes n) → drop i log ≡ zeros (1 * n) ++ rest_registers → Reached log (length log) end
  ends_salt n i p d =
      let a = on (salt_bytes n) i _ (zeros (1 * n)) rest_registers p d (length-replicate (1 * n) 0) refl refl in
      ends_registers (i + 1 * n) a.0 a.1

  ends : (s : Next) (i : ℕ) → Some s → Reached log i s → drop i log ≡ rest s → Reached log (length log) end
  unfolding number_in
  ends salt i h p d =
      let a = on salt i 0 (number 0) rest_registers p d refl refl refl in
      ends_salt 0 (i + 2) a.0 a.1
  ends (salt_bytes n) i h p d = ends_salt n i p d
  ends registers i h p d = ends_registers i p d
  ends (register_bytes r) i h p d = ends_contents r i p d
  ends (events r) i h p d = ends_events r i p d
  ends (event r n) i h p d = ends_left r (suc n) i h p d
  ends (claims r) i h p d = ends_claims r i p d
  ends (claim_bytes n) i h p d =
      let a = on (claim_bytes n) i _ (zeros (32 * n)) [] p (d ∙ sym (append-nil (zeros (32 * n)))) (length-replicate (32 * n) 0) refl refl in
      ends_end (i + 32 * n) a.0 a.1
  ends end i h p d = ends_end i p d

-- Whatever was read as good begins an accepted log.
pub begins : (log : List ℕ) {i : ℕ} {s : Next} → Reached log i s → Begins (take i log)
begins log {i} {s} p =
    let front = take i log in
    let l = length-take-le i log (reached_bound log p) in
    let q = reached_same log (front ++ rest s) p (take_at front (rest s) i l) in
    let w = end_read (front ++ rest s) (ends (front ++ rest s) s i (reached_some log p) q (drop_at front (rest s) i l)) in
    record { more = rest s; layout = w.0; accepted = w.1 }
