-- Places that reading comes to: what is left to read there, that only what stands before them matters, and which fate each leads to.
use mathlib.Core.Path.{◌≡◌, refl, ap, sym, ◌∙◌}
use mathlib.Core.Bool.{Bool, true, false, cond}
use mathlib.Core.List.{List}
use Prim.Native.Nat.{ℕ, zero, suc, ◌+◌, ◌≤◌, ◌<◌}
use native.Mathlib.Omega.{arith}
use lib.Dec.{eqb, ltb}
use lib.ListN.{length, take, drop, length-take, take-append-drop}
use lib.Seq.{length-take-le, take-take}
use borrow.Author.Tests.{lt-ltb, le-ltb, eq-eqb, ne_eqb, eqb-true, eqb-false, ltb-true, ltb-false}
use Rattle.answers.specs.declared.refusal.Refusal.{Refusal}
use Rattle.answers.specs.declared.refusal.Refusal.TheVariants.{LogExtent}
use Rattle.log_answers.specs.declared.reading.Layout.{Layout}
use Rattle.fields.specs.Fields.{number_at}
use Rattle.fields.proofs.Numbers.{number_inside}
use Rattle.layout.specs.Layout.{reading_of}
use Rattle.bad_logs.specs.Steps.{Next, salt, salt_bytes, registers, register_bytes, events, event, claims, claim_bytes, end, size, good, refusal, left, after, Reached, start, onward, Bad, cut, wrong, extra}
use Rattle.bad_logs.proofs.Walk.{Fate, read, bad, fate, from, reading_from, step}
use Rattle.std.specs.Prelude.{Result, Ok, Err}
use Rattle.log_answers.specs.declared.reading.Fault.{Fault}
use Rattle.log_answers.specs.Reading.{fault}

module _ (log : List ℕ) where
  pub reached_bound : {i : ℕ} {s : Next} → Reached log i s → i ≤ length log
  reached_bound start = omega arith
  reached_bound (onward r h g) = h

  -- the fate of a log is that from any place reached
  pub reached_from : {i : ℕ} {s : Next} → Reached log i s → fate (reading_of log) ≡ from log s i
  reached_from start = reading_from log
  reached_from (onward {i} {s} r h g) =
      reached_from r ∙ step log s i (reached_bound r) ∙ rw (le-ltb (length log) (i + size s) h, g)

  -- and so each of these is refused so
  pub fate_bad : (r : Refusal) (o : ℕ) → fate (reading_of log) ≡ bad r o → reading_of log ≡ Err (fault r o)
  fate_bad r o = by (reading_of log)
    where
      by : (x : Result Layout Fault) → fate x ≡ bad r o → x ≡ Err (fault r o)
      by (Ok at) e = let z : ◌≡◌ {A = ℕ} 0 1 = cc in absurd (omega arith)
      by (Err f) e =
          let a : f.refusal ≡ r = cc in
          let b : f.offset ≡ o = cc in
          rw (← a, ← b)

  pub bad_refused : {r : Refusal} {o : ℕ} → Bad log r o → reading_of log ≡ Err (fault r o)
  bad_refused (cut {i} {s} p h) = fate_bad LogExtent (length log) (reached_from p ∙ step log s i (reached_bound p) ∙ rw (lt-ltb (length log) (i + size s) h))
  bad_refused (wrong {i} {s} p h g) = fate_bad (refusal s) i (reached_from p ∙ step log s i (reached_bound p) ∙ rw (le-ltb (length log) (i + size s) h, g))
  bad_refused (extra {i} p h) = fate_bad LogExtent i (reached_from p ∙ rw (ne_eqb (length log) i (λ e. omega arith)))

  pub end_read : Reached log (length log) end → (at : Layout) × (reading_of log ≡ Ok at)
  end_read p = by (reading_of log) (reached_from p ∙ rw (eq-eqb (length log) (length log) refl))
    where
      by : (x : Result Layout Fault) → fate x ≡ read → (at : Layout) × (x ≡ Ok at)
      by (Ok at) e = (at, refl)
      by (Err f) e = let z : ◌≡◌ {A = ℕ} 0 1 = cc in absurd (omega arith)

-- Where reading comes to depends only on the bytes before.
number_front : (l : List ℕ) (n i : ℕ) → i + 2 ≤ length (take n l) → number_at l i ≡ number_at (take n l) i
number_front l n i h = ap (λ (l : List ℕ). number_at l i) (sym (take-append-drop n l)) ∙ number_inside 2 (take n l) (drop n l) i h

pub number_same : (log log' : List ℕ) (n i : ℕ) → i + 2 ≤ n → n ≤ length log → take n log' ≡ take n log → number_at log' i ≡ number_at log i
number_same log log' n i h b e =
    let z = length-take-le n log b in
    number_front log' n i (omega (arith, ap length e)) ∙ ap (λ (l : List ℕ). number_at l i) e ∙ sym (number_front log n i (omega arith))

-- and so do shorter fronts of the same bytes
pub front_same : (log log' : List ℕ) (n i : ℕ) → i ≤ n → take n log' ≡ take n log → take i log' ≡ take i log
front_same log log' n i h e = sym (take-take i n log' h) ∙ ap (take i) e ∙ take-take i n log h

pub front_there : (log log' : List ℕ) (n : ℕ) → n ≤ length log → take n log' ≡ take n log → n ≤ length log'
front_there log log' n h e = omega (arith, ap length e, length-take-le n log h, length-take n log')

pub steady : (s : Next) (x y : ℕ) → (2 ≤ size s → x ≡ y) → (good s x ≡ good s y) × (after s x ≡ after s y)
steady salt x y h = let e = h (omega arith) in (rw e, rw e)
steady (salt_bytes n) x y h = (refl, refl)
steady registers x y h = let e = h (omega arith) in (rw e, rw e)
steady (register_bytes r) x y h = (refl, refl)
steady (events r) x y h = let e = h (omega arith) in (rw e, rw e)
steady (event r n) x y h = let e = h (omega arith) in (rw e, refl)
steady (claims r) x y h = let e = h (omega arith) in (rw e, rw e)
steady (claim_bytes n) x y h = (refl, refl)
steady end x y h = (refl, refl)

pub reached_same : (log log' : List ℕ) {i : ℕ} {s : Next} → Reached log i s → take i log' ≡ take i log → Reached log' i s
reached_same log log' start e = start
reached_same log log' (onward {i} {s} p h g) e =
    let n = i + size s in
    let b = front_there log log' n h e in
    let before = front_same log log' n i (omega arith) e in
    let t = steady s (number_at log' i) (number_at log i) (λ two. number_same log log' n i (omega arith) h e) in
    rw t.1 at (onward (reached_same log log' p before) b (t.0 ∙ g))

-- ---- which fate each log has
module _ (log : List ℕ) where
  -- what a fate tells: reading comes to the log's end, or the log is bad
  pub data Told : Fate → Type 0 where
    told_read : Reached log (length log) end → Told read
    told_bad : {r : Refusal} {o : ℕ} → Bad log r o → Told (bad r o)

  -- one step, and what follows it
  told_step : (s : Next) (i : ℕ) → Reached log i s
      → (Reached log (i + size s) (after s (number_at log i)) → Told (from log (after s (number_at log i)) (i + size s))) → Told (from log s i)
  told_step s i p on =
      rw (step log s i (reached_bound log p)) (by (ltb (length log) (i + size s)) (good s (number_at log i)) (ltb-true _ _) (ltb-false _ _) refl)
    where
      by : (short fine : Bool) → (short ≡ true → length log < i + size s) → (short ≡ false → i + size s ≤ length log) → good s (number_at log i) ≡ fine
          → Told (cond short (bad LogExtent (length log)) (cond fine (from log (after s (number_at log i)) (i + size s)) (bad (refusal s) i)))
      by true fine f g e = told_bad (cut p (f refl))
      by false true f g e = on (onward p (g refl) e)
      by false false f g e = told_bad (wrong p (g refl) e)

  told_end : (i : ℕ) → Reached log i end → Told (from log end i)
  told_end i p = by (eqb (length log) i) (eqb-true _ _) (eqb-false _ _)
    where
      by : (t : Bool) → (t ≡ true → length log ≡ i) → (t ≡ false → length log ≡ i → ⊥) → Told (cond t read (bad LogExtent i))
      by true f g = told_read (rw (f refl) p)
      by false f g = told_bad (extra p (omega (arith, reached_bound log p, g refl)))

  told_claims : (r i : ℕ) → Reached log i (claims r) → Told (from log (claims r) i)
  told_claims r i p = told_step (claims r) i p (λ q. told_step (claim_bytes _) _ q (told_end _))

  told_left : (r n i : ℕ) → Reached log i (left r n) → Told (from log (left r n) i)
  told_left r zero i p = told_claims r i p
  told_left r (suc n) i p = told_step (event r n) i p (told_left r n (i + 36))

  told_events : (r i : ℕ) → Reached log i (events r) → Told (from log (events r) i)
  told_events r i p = told_step (events r) i p (told_left r (number_at log i) (i + 2))

  told_registers : (i : ℕ) → Reached log i registers → Told (from log registers i)
  told_registers i p = told_step registers i p (λ q. told_step (register_bytes _) _ q (told_events _ _))

  pub fate_told : Told (fate (reading_of log))
  fate_told = rw (reading_from log) (told_step salt 0 start (λ q. told_step (salt_bytes _) _ q (told_registers _)))

  pub refused_bad : (r : Refusal) (o : ℕ) → reading_of log ≡ Err (fault r o) → Bad log r o
  refused_bad r o e = by (fate (reading_of log)) fate_told (ap fate e)
    where
      by : (f : Fate) → Told f → f ≡ bad r o → Bad log r o
      by read (told_read p) e = let z : ◌≡◌ {A = ℕ} 0 1 = cc in absurd (omega arith)
      by (bad r' o') (told_bad b) e =
          let x : r' ≡ r = cc in
          let y : o' ≡ o = cc in
          rw (x, y) at b

  pub whole_reached : (at : Layout) → reading_of log ≡ Ok at → Reached log (length log) end
  whole_reached at e = by (fate (reading_of log)) fate_told (ap fate e)
    where
      by : (f : Fate) → Told f → f ≡ read → Reached log (length log) end
      by read (told_read p) e = p
      by (bad r o) (told_bad b) e = let z : ◌≡◌ {A = ℕ} 0 1 = cc in absurd (omega arith)
