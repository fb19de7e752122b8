-- What the place of a refusal means, number by number, and of accepted logs that are cut or go on.
use mathlib.Core.Path.{◌≡◌, refl, ap, sym, ◌∙◌}
use mathlib.Core.Bool.{Bool, true, false, cond}
use mathlib.Core.List.{List, [], ◌∷◌, ◌++◌, append-nil, append_assoc}
use mathlib.Core.Logic.{◌⊎◌, inl, inr}
use Prim.Native.Nat.{ℕ, ◌+◌, ◌-◌, ◌≤◌, ◌<◌}
use native.Mathlib.Omega.{arith}
use native.Mathlib.Decide.{dec_lt}
use lib.Dec.{leb}
use lib.ListN.{length, take, replicate, length-append, length-replicate}
use lib.Seq.{length-take-le, take_all, take-take, take-append-le}
use borrow.Author.Tests.{leb-true, not-false}
use Rattle.answers.specs.declared.refusal.Refusal.{Refusal}
use Rattle.answers.specs.declared.refusal.Refusal.TheVariants.{LogExtent, SectionCount, EventRegister}
use Rattle.log_answers.specs.declared.reading.Layout.{Layout}
use Rattle.fields.specs.Fields.{number_at}
use Rattle.layout.specs.Layout.{reading_of}
use Rattle.bad_logs.specs.Steps.{Next, salt, salt_bytes, registers, register_bytes, events, event, claims, claim_bytes, end, size, good, refusal, Reached, start, onward, Bad, cut, wrong, extra}
use Rattle.bad_logs.specs.Meaning.{Begins, Count, of_salt, of_registers, of_events, of_claims, BadCount, BadRegister, Cut, Leftover}
use Rattle.bad_logs.proofs.Reach.{reached_bound, number_same, front_same, front_there, reached_same, bad_refused, refused_bad, end_read, whole_reached}
use Rattle.bad_logs.proofs.Begun.{begins}
use Rattle.std.specs.Prelude.{Ok, Err}
use Rattle.log_answers.specs.Reading.{fault}

true_false : ◌≡◌ {A = Bool} true false → ⊥
true_false e =
    let z : ◌≡◌ {A = ℕ} 1 0 = ap (λ (t : Bool). cond t 1 0) e in
    absurd (omega arith)

-- what each number is given for
data Refusing : Next → Refusal → Type 0 where
  a_count : {s : Next} → Count s → size s ≡ 2 → Refusing s SectionCount
  a_register : {r n : ℕ} → Refusing (event r n) EventRegister

refusing : (s : Next) (n : ℕ) → good s n ≡ false → Refusing s (refusal s)
refusing salt n g = a_count of_salt refl
refusing (salt_bytes k) n g = absurd (true_false g)
refusing registers n g = a_count of_registers refl
refusing (register_bytes r) n g = absurd (true_false g)
refusing (events r) n g = a_count of_events refl
refusing (event r k) n g = a_register
refusing (claims r) n g = a_count of_claims refl
refusing (claim_bytes k) n g = absurd (true_false g)
refusing end n g = absurd (true_false g)

-- no reading is both
apart : {at : Layout} {r : Refusal} {o : ℕ} → Ok at ≡ Err (fault r o) → ◌≡◌ {A = ℕ} 0 1
apart e = cc

-- what is refused is a count or a register
one_of_two : {s : Next} {r : Refusal} → Refusing s r → (r ≡ SectionCount) ⊎ (r ≡ EventRegister)
one_of_two (a_count c z) = inl refl
one_of_two a_register = inr refl

no_extent : {r : Refusal} → (r ≡ SectionCount) ⊎ (r ≡ EventRegister) → r ≡ LogExtent → ⊥
no_extent (inl a) e = let z : ◌≡◌ {A = ℕ} 0 1 = cc in absurd (omega arith)
no_extent (inr a) e = let z : ◌≡◌ {A = ℕ} 0 1 = cc in absurd (omega arith)

module _ (log : List ℕ) where
  -- the same part at the same place of another log is refused as here
  wrong_same : (o : ℕ) (s : Next) → Reached log o s → o + 2 ≤ length log → good s (number_at log o) ≡ false
      → (log' : List ℕ) → take (o + 2) log' ≡ take (o + 2) log → o + size s ≤ length log' → reading_of log' ≡ Err (fault (refusal s) o)
  wrong_same o s p h g log' e there =
      bad_refused log'
      (wrong (reached_same log log' p (front_same log log' (o + 2) o (omega arith) e)) there (rw (number_same log log' (o + 2) o (omega arith) h e) g))

  pub count_bad : (o : ℕ) → reading_of log ≡ Err (fault SectionCount o) → BadCount log o
  count_bad o e = by SectionCount o (refused_bad log SectionCount o e) refl
    where
      counted : (i : ℕ) (s : Next) (r : Refusal) → Refusing s r → r ≡ SectionCount → refusal s ≡ r → Reached log i s → i + size s ≤ length log
          → good s (number_at log i) ≡ false → BadCount log i
      counted i s r (a_count c z) e f p h g =
          let h : i + 2 ≤ length log = omega arith in
          record {
            which = s;
            count = c;
            reached = p;
            there = h;
            barred = g;
            before = begins log p;
            same = λ log' q. rw f at (wrong_same i s p h g log' q (omega (arith, front_there log log' (i + 2) h q)));
          }
      counted i s r a_register e f p h g = let z : ◌≡◌ {A = ℕ} 0 1 = cc in absurd (omega arith)

      by : (r : Refusal) (o : ℕ) → Bad log r o → r ≡ SectionCount → BadCount log o
      by r o (cut p h) e = let z : ◌≡◌ {A = ℕ} 0 1 = cc in absurd (omega arith)
      by r o (wrong {i} {s} p h g) e = counted i s (refusal s) (refusing s (number_at log i) g) e refl p h g
      by r o (extra p h) e = let z : ◌≡◌ {A = ℕ} 0 1 = cc in absurd (omega arith)

  pub register_bad : (o : ℕ) → reading_of log ≡ Err (fault EventRegister o) → BadRegister log o
  register_bad o e = by EventRegister o (refused_bad log EventRegister o e) refl
    where
      foreign : (i : ℕ) (s : Next) (r : Refusal) → Refusing s r → r ≡ EventRegister → Reached log i s → i + size s ≤ length log
          → good s (number_at log i) ≡ false → BadRegister log i
      foreign i s r (a_count c z) e p h g = let z : ◌≡◌ {A = ℕ} 0 1 = cc in absurd (omega arith)
      foreign i s r (a_register {r = most} {n}) e p h g =
          let two : i + 2 ≤ length log = omega arith in
          record {
            registers = most;
            behind = n;
            reached = p;
            there = h;
            foreign = leb-true most (number_at log i) (not-false (leb most (number_at log i)) g);
            before = begins log p;
            same = λ log' q there. wrong_same i (event most n) p two g log' q there;
            shorter = λ log' q short. bad_refused log' (cut (reached_same log log' p (front_same log log' (i + 2) i (omega arith) q)) short);
          }

      by : (r : Refusal) (o : ℕ) → Bad log r o → r ≡ EventRegister → BadRegister log o
      by r o (cut p h) e = let z : ◌≡◌ {A = ℕ} 0 1 = cc in absurd (omega arith)
      by r o (wrong {i} {s} p h g) e = foreign i s (refusal s) (refusing s (number_at log i) g) e p h g
      by r o (extra p h) e = let z : ◌≡◌ {A = ℕ} 0 1 = cc in absurd (omega arith)

  leftover : (o : ℕ) → Reached log o end → o < length log → Leftover log o
  leftover o p h =
      let l = length-take-le o log (omega arith) in
      let q = reached_same log (take o log) p (take-take o o log (omega arith)) in
      let w = end_read (take o log) (rw l q) in
      record {
        some = h;
        layout = w.0;
        accepted = w.1;
        same = λ log' e more. bad_refused log' (extra (reached_same log log' p e) more);
      }

  -- a part that is not whole: where nothing of it is there, an accepted log goes on from it; else the part filled with zeros is good, and then so does one, or is
  -- refused where it begins
  module _ (i : ℕ) (s : Next) (p : Reached log i s) (short : length log < i + size s) where
    abbrev GoesOn : List ℕ → Type 0
    GoesOn more = ((at : Layout) × (reading_of (log ++ more) ≡ Ok at))
        ⊎ ((r : Refusal) × (i < length log) × ((r ≡ SectionCount) ⊎ (r ≡ EventRegister)) × (reading_of (log ++ more) ≡ Err (fault r i)))

    cut_so : (more : List ℕ) → 0 < length more → GoesOn more → Cut log
    cut_so more h g = record { from = i; part = s; reached = p; inside = short; before = begins log p; more = more; longer = h; on = g }

    cut_between : i ≡ length log → Cut log
    cut_between e = by b.more b.accepted
      where
        b : Begins (take i log)
        b = begins log p

        all : take i log ≡ log
        all = take_all i log (omega arith)

        by : (more : List ℕ) → reading_of (take i log ++ more) ≡ Ok b.layout → Cut log
        by [] w =
            let whole : reading_of log ≡ Ok b.layout = rw (append-nil, all) at w in
            let z : ◌≡◌ {A = ℕ} 0 1 = apart (sym whole ∙ bad_refused log (cut p short)) in
            absurd (omega arith)
        by (x ∷ more) w = cut_so (x ∷ more) (omega arith) (inl (b.layout, rw all at w))

    abbrev fill : List ℕ
    fill = replicate (i + size s - length log) 0

    fill_length : length fill ≡ i + size s - length log
    fill_length = length-replicate {A = ℕ} (i + size s - length log) 0

    filled : length (log ++ fill) ≡ i + size s
    filled = omega (arith, length-append log fill, fill_length)

    still : Reached (log ++ fill) i s
    still = reached_same log (log ++ fill) p (take-append-le i log fill (reached_bound log p))

    cut_inside : i < length log → Cut log
    cut_inside h = by (good s (number_at (log ++ fill) i)) refl
      where
        by : (t : Bool) → good s (number_at (log ++ fill) i) ≡ t → Cut log
        by false g =
            let refused = bad_refused (log ++ fill) (wrong still (omega (arith, filled)) g) in
            cut_so fill (omega (arith, fill_length)) (inr (refusal s, h, one_of_two (refusing s (number_at (log ++ fill) i) g), refused))
        by true g =
            let b = begins (log ++ fill) (onward still (omega (arith, filled)) g) in
            let all = take_all (i + size s) (log ++ fill) (omega (arith, filled)) in
            let accepted : reading_of (log ++ (fill ++ b.more)) ≡ Ok b.layout = rw (all, append_assoc log fill b.more) at b.accepted in
            cut_so (fill ++ b.more) (omega (arith, length-append fill b.more, fill_length)) (inl (b.layout, accepted))

    cut_part : Cut log
    cut_part = elim (dec_lt i (length log)) [
      | yes h ↦ cut_inside h
      | no h ↦ cut_between (omega (arith, reached_bound log p))
    ]

  pub extent_bad : (o : ℕ) → reading_of log ≡ Err (fault LogExtent o) → ((o ≡ length log) × Cut log) ⊎ Leftover log o
  extent_bad o e = by LogExtent o (refused_bad log LogExtent o e) refl
    where
      by : (r : Refusal) (o : ℕ) → Bad log r o → r ≡ LogExtent → ((o ≡ length log) × Cut log) ⊎ Leftover log o
      by r o (cut {i} {s} p h) e = inl (refl, cut_part i s p h)
      by r o (wrong {i} {s} p h g) e = absurd (no_extent (one_of_two (refusing s (number_at log i) g)) e)
      by r o (extra {i} p h) e = inr (leftover i p h)

-- ---- accepted logs
module _ (log : List ℕ) (at : Layout) (e : reading_of log ≡ Ok at) where
  -- An accepted log that is cut anywhere is refused with 6 at its size.
  pub accepted_cut : (n : ℕ) → n < length log → reading_of (take n log) ≡ Err (fault LogExtent n)
  accepted_cut n h =
      let l = length-take-le n log (omega arith) in
      let w = within (whole_reached log at e) h in
      let q = reached_same log (take n log) w.2 (take-take w.0 n log w.3) in
      rw l at (bad_refused (take n log) (cut q (omega (arith, w.4))))
    where
      -- the part that place n lies in
      within : {j : ℕ} {s : Next} → Reached log j s → n < j → (i : ℕ) × (t : Next) × Reached log i t × (i ≤ n) × (n < i + size t)
      within start h = absurd (omega arith)
      within (onward {i} {s} p g f) h = elim (dec_lt n i) [
        | yes k ↦ within p k
        | no k ↦ (i, s, p, omega arith, h)
      ]

  -- One with bytes behind it is refused with 6 where they begin.
  pub accepted_more : (more : List ℕ) → 0 < length more → reading_of (log ++ more) ≡ Err (fault LogExtent (length log))
  accepted_more more h =
      let q = reached_same log (log ++ more) (whole_reached log at e) (take-append-le (length log) log more (omega arith)) in
      bad_refused (log ++ more) (extra q (omega (arith, length-append log more)))
