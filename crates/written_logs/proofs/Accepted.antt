-- What the logger writes is never refused by the check: "every log written is accepted by a check with room for its registers, with noclaim or agrees as
-- asked".
use mathlib.Core.Path.{◌≡◌, refl, sym, ◌∙◌}
use mathlib.Core.Bool.{Bool, true, false, cond}
use mathlib.Core.List.{List, ◌++◌}
use Prim.Native.Nat.{ℕ, ◌*◌, ◌≤◌}
use native.Mathlib.Omega.{arith}
use lib.ListN.{length, take, drop}
use borrow.Author.Tests.{le-ltb}
use Rattle.std.specs.Prelude.{Ok}
use Rattle.log_answers.specs.declared.reading.Layout.{Layout}
use Rattle.std.specs.Prelude.{Ok}
use Rattle.log_answers.specs.declared.checked.Verdict.TheVariants.{NoClaim, Agrees}
use Rattle.log_answers.specs.Checked.{findings}
use Rattle.layout.specs.Layout.{reading_of}
use Rattle.layout.proofs.Sizes.{counts}
use Rattle.records.specs.Events.{event_run}
use Rattle.records.specs.Records.{records_of}
use Rattle.bootlog.specs.Replay.{end_values}
use Rattle.bootlog.specs.Check.{ends_of, verdict_of, checked_at, check_of, check_buffer}
use Rattle.bootlog.proofs.Logs.{log_blocks}
use Rattle.bootlog.proofs.Verdicts.{no_claim, check_answer}
use Rattle.logger.specs.Write.{registers_in, events_in, parts_answer, claims_for, log_for, write_answer, write_buffer}
use Rattle.logger.proofs.Parts.{spelled_ends, spelled_buffer}
use Rattle.written_logs.proofs.Back.{placed, written_fit, written_read, written_claims, parts_accepted, written_front}
use Rattle.written_logs.proofs.Comparing.{compared_self, verdict_claimed}

-- the end values of the written log are those of its parts
ends_same : (salt starts events : List ℕ) (wish : Bool) (ok : parts_answer salt starts events ≡ Ok tt)
    → ends_of (log_for salt starts events wish) (placed salt starts events wish ok) ≡ end_values salt starts (events_in events) events
unfolding log_for
ends_same salt starts events wish ok = spelled_ends _ _ _ _ _ _ _ (written_fit salt starts events wish ok)

-- the verdict is as asked
verdict_asked : (salt starts events : List ℕ) (wish : Bool) (ok : parts_answer salt starts events ≡ Ok tt)
    → verdict_of (log_for salt starts events wish) (placed salt starts events wish ok) ≡ cond wish Agrees NoClaim
unfolding claims_for
verdict_asked salt starts events false ok =
    sym (no_claim (log_for salt starts events false) (placed salt starts events false ok) (written_read salt starts events false ok) refl)
verdict_asked salt starts events true ok =
    let log = log_for salt starts events true in
    let at = placed salt starts events true ok in
    let ends = end_values salt starts (events_in events) events in
    verdict_claimed log at (λ z. omega (arith, (counts log at (written_read salt starts events true ok)).least))
    ∙ rw (ends_same salt starts events true ok, written_claims salt starts events true ok) (compared_self ends 0 (registers_in starts))

module _ (salt starts events : List ℕ) (wish : Bool) (ok : parts_answer salt starts events ≡ Ok tt) where
  abbrev log : List ℕ
  log = log_for salt starts events wish

  abbrev at : Layout
  at = placed salt starts events wish ok

  read : reading_of log ≡ Ok at
  read = written_read salt starts events wish ok

  pub written_accepted : (room : ℕ) → 34 * registers_in starts ≤ room
      → check_of (log_for salt starts events wish) room ≡ Ok (findings (registers_in starts) (events_in events) (2 * events_in events) (cond wish Agrees NoClaim))
  unfolding checked_at
  written_accepted room h =
      sym (check_answer log at read room (rw (le-ltb room (34 * registers_in starts) h, log_blocks log at read, verdict_asked salt starts events wish ok)))

  -- and the check writes the records of the end values, which are the claims where they are wished for
  pub written_records : (out : List ℕ) → 34 * registers_in starts ≤ length out
      → check_buffer (log_for salt starts events wish) out
      ≡ records_of (end_values salt starts (events_in events) events) (event_run events) (registers_in starts) ++ drop (34 * registers_in starts) out
  unfolding log_for
  written_records out h = spelled_buffer _ _ _ _ _ _ _ (written_fit salt starts events wish ok) out h

-- So the log that write leaves in a buffer is accepted by a check with room for its registers.
pub written_checked : (salt starts events : List ℕ) (wish : Bool) (out : List ℕ) → write_answer salt starts events wish (length out) ≡ Ok tt
    → (room : ℕ) → 34 * registers_in starts ≤ room
    → check_of (take (length (log_for salt starts events wish)) (write_buffer salt starts events wish out)) room
    ≡ Ok (findings (registers_in starts) (events_in events) (2 * events_in events) (cond wish Agrees NoClaim))
written_checked salt starts events wish out ok room h =
    rw (written_front salt starts events wish out ok) (written_accepted salt starts events wish (parts_accepted salt starts events wish out ok) room h)
