-- Exactness: the sections of an accepted log, written again with the same wish.
use mathlib.Core.Path.{◌≡◌, refl, sym, ◌∙◌}
use mathlib.Core.Bool.{Bool, false, not, cond}
use mathlib.Core.List.Memᴰ
use mathlib.Core.List.{List, [], ◌∷◌}
use mathlib.Core.Logic.{◌⊎◌, ⊎_elim}
use Prim.Native.Nat.{ℕ, ◌+◌, ◌*◌, ◌%◌, ◌≤◌}
use native.Mathlib.Omega.{arith}
use lib.Dec.{eqb}
use lib.ListN.{length}
use borrow.Author.Tests.{eq-eqb, ne_eqb, le-leb, lt-leb}
use Rattle.std.specs.Prelude.{Ok}
use Rattle.log_answers.specs.declared.reading.Layout.{Layout}
use Rattle.log_answers.specs.declared.checked.Verdict.TheVariants.{NoClaim, Agrees}
use Rattle.layout.specs.Layout.{reading_of, salt_of, starts_of, events_of, claims_of}
use Rattle.records.specs.Events.{Event, event_list}
use Rattle.bootlog.specs.Check.{ends_of, verdict_of}
use Rattle.fields.proofs.Numbers.{bytes}
use Rattle.layout.proofs.Sections.{one_of, within}
use Rattle.layout.proofs.Sizes.{counts, salt_length, starts_length, events_length, claims_length}
use Rattle.bootlog.proofs.Replaying.{below}
use Rattle.bootlog.proofs.Logs.{events_below, ends_length}
use Rattle.log_laws.proofs.Exact.{exact}
use Rattle.logger.specs.Write.{registers_in, events_in, starts_fit, events_fit, foreign, parts_answer, claims_for, log_for}
use Rattle.written_logs.proofs.Back.{placed, written_read, written_salt, written_starts, written_events}
use Rattle.written_logs.proofs.Comparing.{compared_claimed, compared_equal, verdict_claimed}
use Rattle.std.specs.Prelude.{Ok}

-- events whose registers are all below r
below_own : (r : ℕ) (es : List Event) → below r es → foreign r es ≡ false
unfolding foreign
below_own r [] b = refl
below_own r (e ∷ es) b = rw (lt-leb r e.register (b e (Memᴰ.head refl))) (below_own r es (λ x m. b x (Memᴰ.tail m)))

-- parts of so many registers and events pass the tests
parts_pass : (salt starts events : List ℕ) (r n : ℕ) → (length salt ≡ 0) ⊎ (length salt ≡ 32) → length starts ≡ 32 * r → 1 ≤ r → r ≤ 24
    → length events ≡ 36 * n → n ≤ 1024 → below r (event_list n events) → parts_answer salt starts events ≡ Ok tt
unfolding parts_answer starts_fit events_fit
parts_pass salt starts events r n s e least most f counted b =
    let whole : length starts % 32 ≡ 0 = omega arith in
    let all : length events % 36 ≡ 0 = omega arith in
    let g : registers_in starts ≡ r = omega arith in
    let h : events_in events ≡ n = omega arith in
    rw (one_of (length salt) 0 32 s, whole, all, g, h, within r 1 24 least most, le-leb n 1024 counted, below_own r (event_list n events) b)

module _ (log : List ℕ) (at : Layout) (e : reading_of log ≡ Ok at) where
  -- its sections are never refused
  pub again_accepted : parts_answer (salt_of log at) (starts_of log at) (events_of log at) ≡ Ok tt
  again_accepted =
      let c = counts log at e in
      parts_pass (salt_of log at) (starts_of log at) (events_of log at) at.registers at.events (rw (salt_length log at e) c.salt)
      (starts_length log at e) c.least c.most (events_length log at e) c.events (events_below log at e)

  -- the wish that the log itself was written with
  abbrev pub wished : Bool
  wished = not (eqb at.claims 0)

  abbrev pub again : List ℕ
  again = log_for (salt_of log at) (starts_of log at) (events_of log at) wished

  -- the counts are the log's own
  registers_in_lem : registers_in (starts_of log at) ≡ at.registers
  registers_in_lem = omega (arith, starts_length log at e)

  events_in_lem : events_in (events_of log at) ≡ at.events
  events_in_lem = omega (arith, events_length log at e)

  -- claims that are as many as the registers are some
  some : at.claims ≡ at.registers → at.claims ≡ 0 → ⊥
  some z y = omega (arith, (counts log at e).least)

  claims_in_lem : cond wished (registers_in (starts_of log at)) 0 ≡ at.claims
  claims_in_lem =
      ⊎_elim (λ z. rw (eq-eqb at.claims 0 z) (sym z)) (λ z. rw (ne_eqb at.claims 0 (some z)) (registers_in_lem ∙ sym z)) (counts log at e).claims

  -- and so it is laid out as the log is
  placed_again : placed (salt_of log at) (starts_of log at) (events_of log at) wished again_accepted ≡ at
  placed_again =
      let c = counts log at e in
      let salt = salt_length log at e in
      let s = length (salt_of log at) in
      let r = registers_in (starts_of log at) in
      let n = events_in (events_of log at) in
      let second : 2 + s ≡ at.second = omega (arith, salt) in
      let third : 2 + s + 2 + 32 * r ≡ at.third = omega (arith, salt, registers_in_lem) in
      let fourth : 2 + s + 2 + 32 * r + 2 + 36 * n ≡ at.fourth = omega (arith, salt, registers_in_lem, events_in_lem) in
      λ i. record {
        salt = salt i;
        registers = registers_in_lem i;
        events = events_in_lem i;
        claims = claims_in_lem i;
        second = second i;
        third = third i;
        fourth = fourth i;
      }

  -- the log written again has the same layout and sections, but for claims that differ, in whose place stand the end values
  pub again_read : reading_of again ≡ Ok at
  again_read = rw placed_again at (written_read (salt_of log at) (starts_of log at) (events_of log at) wished again_accepted)

  pub again_salt : salt_of again at ≡ salt_of log at
  again_salt = rw placed_again at (written_salt (salt_of log at) (starts_of log at) (events_of log at) wished again_accepted)

  pub again_starts : starts_of again at ≡ starts_of log at
  again_starts = rw placed_again at (written_starts (salt_of log at) (starts_of log at) (events_of log at) wished again_accepted)

  pub again_events : events_of again at ≡ events_of log at
  again_events = rw placed_again at (written_events (salt_of log at) (starts_of log at) (events_of log at) wished again_accepted)

  -- claims that agree are the end values
  agreed : at.claims ≡ at.registers → (verdict_of log at ≡ NoClaim) ⊎ (verdict_of log at ≡ Agrees) → ends_of log at ≡ claims_of log at
  agreed z v =
      let ends = ends_of log at in
      let claims = claims_of log at in
      let c = sym (verdict_claimed log at (some z)) in
      ⊎_elim (λ v. absurd (compared_claimed ends claims 0 at.registers (c ∙ v)))
      (λ v. compared_equal ends claims 0 at.registers (omega (arith, ends_length log at e)) (omega (arith, claims_length log at e)) (c ∙ v)) v

  claims_again : (verdict_of log at ≡ NoClaim) ⊎ (verdict_of log at ≡ Agrees) → claims_for (salt_of log at) (starts_of log at) (events_of log at) wished ≡ claims_of log at
  unfolding claims_for claims_of ends_of
  claims_again v =
      ⊎_elim (λ z. rw (eq-eqb at.claims 0 z, z)) (λ z. rw (ne_eqb at.claims 0 (some z), events_in_lem) (agreed z v)) (counts log at e).claims

  -- where the log's claims agree or are absent, it is the same log, byte for byte
  pub again_same : bytes log → (verdict_of log at ≡ NoClaim) ⊎ (verdict_of log at ≡ Agrees) → again ≡ log
  unfolding log_for
  again_same b v = rw (claims_again v) (exact log at e b)
