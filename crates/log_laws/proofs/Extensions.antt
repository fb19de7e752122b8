-- The extensions over all registers add up to N (document 02, Four).
use mathlib.Core.Path.{◌≡◌, refl, ◌∙◌}
use mathlib.Core.Bool.{Bool, true, false}
use mathlib.Core.List.Memᴰ
use mathlib.Core.List.{List, [], ◌∷◌, ◌++◌}
use Prim.Native.Nat.{ℕ, zero, suc, ◌+◌, ◌*◌, ◌≤◌, ◌<◌}
use native.Mathlib.Omega.{arith}
use native.Mathlib.Decide.{dec_lt}
use lib.Dec.{ltb}
use lib.ListN.{length}
use borrow.Author.Tests.{ltb-false}
use Rattle.log_answers.specs.declared.reading.Layout.{Layout}
use Rattle.log_answers.specs.Checked.{check_registers, check_events}
use Rattle.layout.specs.Layout.{reading_of, events_of}
use Rattle.records.specs.Events.{Event, event_list, digests_for, extensions}
use Rattle.records.specs.Records.{extensions_at}
use Rattle.records.proofs.Events.{event_count_lem, extensions_more, extensions_own, extensions_other}
use Rattle.bootlog.specs.Check.{checked_at, check_of, check_buffer}
use Rattle.bootlog.proofs.Replaying.{below}
use Rattle.bootlog.proofs.Logs.{events_below}
use Rattle.bootlog.proofs.Verdicts.{check_answer, refused_answer}
use Rattle.bootlog.proofs.Recorded.{recorded_number}
use Rattle.log_laws.specs.Extensions.{total}
use Rattle.std.specs.Prelude.{Result, Ok, Err}
use Rattle.log_answers.specs.declared.reading.Fault.{Fault}

total_same : (f g : ℕ → ℕ) (n : ℕ) → ((r : ℕ) → r < n → f r ≡ g r) → total f n ≡ total g n
unfolding total
total_same f g zero h = refl
total_same f g (suc n) h = omega (arith, total_same f g n (λ r p. h r (omega arith)), h n (omega arith))

-- no events, no extensions
total_none : (n : ℕ) → total (λ r. extensions r []) n ≡ 0
unfolding total extensions digests_for
total_none zero = refl
total_none (suc n) = omega (arith, total_none n)

-- an event more counts where its register is among the first n
module _ (e : Event) (es : List Event) where
  total_past : (n : ℕ) → n ≤ e.register → total (λ r. extensions r (e ∷ es)) n ≡ total (λ r. extensions r es) n
  unfolding total
  total_past zero h = refl
  total_past (suc n) h = omega (arith, total_past n (omega arith), extensions_other n e es (λ q. omega arith))

  total_more : (n : ℕ) → e.register < n → total (λ r. extensions r (e ∷ es)) n ≡ 1 + total (λ r. extensions r es) n
  unfolding total
  total_more zero h = absurd (omega arith)
  total_more (suc n) h = elim (dec_lt e.register n) [
    | yes p ↦ omega (arith, total_more n p, extensions_other n e es (λ q. omega arith))
    | no p ↦ omega (arith, total_past n (omega arith), extensions_own n e es (omega arith))
  ]

-- events whose registers are all among the first n
pub total_events : (n : ℕ) (es : List Event) → below n es → total (λ r. extensions r es) n ≡ length es
total_events n [] b = total_none n
total_events n (e ∷ es) b = omega (arith, total_more e es n (b e (Memᴰ.head refl)), total_events n es (λ x m. b x (Memᴰ.tail m)))

-- A copy of the events that was taken too early is short by what the missing ones extend, register by register.
pub extensions_join : (r : ℕ) (es missing : List Event) → extensions r (es ++ missing) ≡ extensions r es + extensions r missing
unfolding extensions digests_for
extensions_join r [] missing = omega arith
extensions_join r (e ∷ es) missing = omega (arith, extensions_more r e es, extensions_more r e (es ++ missing), extensions_join r es missing)

module _ (log : List ℕ) (at : Layout) (e : reading_of log ≡ Ok at) where
  -- The extensions over all registers add up to N.
  pub log_total : total (λ r. extensions r (event_list at.events (events_of log at))) at.registers ≡ at.events
  log_total = total_events at.registers (event_list at.events (events_of log at)) (events_below log at e) ∙ event_count_lem at.events (events_of log at)

  -- so do the numbers of the records
  records_total : (out : List ℕ) → 34 * at.registers ≤ length out → total (extensions_at (check_buffer log out)) at.registers ≡ at.events
  records_total out room = total_same _ _ at.registers (λ r h. recorded_number log at e out room r h) ∙ log_total

  accepted_total : (out : List ℕ) → total (extensions_at (check_buffer log out)) (check_registers (checked_at log at (length out))) ≡ check_events (checked_at log at (length out))
  unfolding checked_at total
  accepted_total out = by (ltb (length out) (34 * at.registers)) refl
    where
      by : (t : Bool) → ltb (length out) (34 * at.registers) ≡ t
          → total (extensions_at (check_buffer log out)) (check_registers (checked_at log at (length out))) ≡ check_events (checked_at log at (length out))
      by true q = rw q
      by false q = rw q (records_total out (ltb-false (length out) (34 * at.registers) q))

-- Whatever the check answers, the numbers in its buffer add up to the events that it answers; of a refusal both are 0.
pub extensions_add_up : (log out : List ℕ)
    → total (extensions_at (check_buffer log out)) (check_registers (check_of log (length out))) ≡ check_events (check_of log (length out))
unfolding total
extensions_add_up log out = by (reading_of log) refl
  where
    by : (x : Result Layout Fault) → reading_of log ≡ x → total (extensions_at (check_buffer log out)) (check_registers (check_of log (length out))) ≡ check_events (check_of log (length out))
    by (Err f) e = rw (← refused_answer log f e (length out))
    by (Ok at) e = rw (← check_answer log at e (length out) refl) (accepted_total log at e out)
