-- The second duty: digests, and registers.
use mathlib.Core.Path.{◌≡◌, refl}
use mathlib.Core.Bool.{true}
use mathlib.Core.List.{List, ◌++◌}
use Prim.Native.Nat.{ℕ, ◌*◌, ◌≤◌}
use lib.ListN.{length, drop}
use borrow.Author.Tests.{le-ltb}
use Rattle.family.specs.Family.{family_of}
use Rattle.std.specs.Prelude.{Ok}
use Rattle.log_answers.specs.declared.reading.Layout.{Layout}
use Rattle.reports.specs.Report.{report_number, report_covered, report_bits, report_blocks}
use Rattle.log_answers.specs.Checked.{check_number}
use Rattle.bits.specs.Bits.{last_fits, digest_bytes}
use Rattle.bits.specs.Message.{Message, bit_length}
use Rattle.state.specs.Bytes.{fill}
use Rattle.finishing.specs.Blocks.{blocks_of, digest_of}
use Rattle.state.specs.State.{bit_limit, limit, allowed}
use Rattle.state.proofs.Limits.{within_bits}
use Rattle.digest.specs.Calls.{salt_fits, one_shot_answer, one_shot_of, one_shot_buffer}
use Rattle.finishing.proofs.Answers.{m_max, digest_length}
use Rattle.layout.specs.Layout.{reading_of, salt_of, starts_of, events_of}
use Rattle.records.specs.Events.{event_list}
use Rattle.records.specs.Records.{records_of}
use Rattle.bootlog.specs.Replay.{salt_in_effect, replayed, end_values}
use Rattle.bootlog.specs.Check.{ends_of, log_records, checked_at, check_of, check_buffer}
use Rattle.bootlog.proofs.Verdicts.{check_answer}
use Rattle.bootlog.proofs.Recorded.{recorded}

-- For each salt, each digest length from 1 to 512 bits and each message up to 2^64 - 1 bits, whose last bits fit, one-shot is accepted and the buffer's first
-- bytes, m/8 rounded up, become the digest.
module _ (m : ℕ) (salt : List ℕ) (x : Message) (out : List ℕ) (ok : allowed m ≡ true) (fits : salt_fits (family_of m) salt ≡ true)
    (within : bit_length x ≤ bit_limit) (bits_fit : last_fits x.last ≡ true) (room : digest_bytes m ≤ length out) where
  accepted : one_shot_answer m salt x out ≡ Ok tt
  unfolding one_shot_answer
  accepted = rw (ok, fits, le-ltb limit (length x.bytes) (within_bits (length x.bytes) x.last.count within), bits_fit, le-ltb (length out) (digest_bytes m) room)

  pub digest_right : (report_number (one_shot_of m salt x out) ≡ 0) × (one_shot_buffer m salt x out ≡ digest_of (family_of m) m (fill 64 salt) x ++ drop (digest_bytes m) out)
  unfolding one_shot_of one_shot_buffer
  digest_right = (rw accepted, rw (accepted, digest_length (family_of m) m (fill 64 salt) x (m_max m ok)))

  pub counts_right : (report_covered (one_shot_of m salt x out) ≡ length x.bytes) × (report_bits (one_shot_of m salt x out) ≡ x.last.count)
      × (report_blocks (one_shot_of m salt x out) ≡ length (blocks_of (family_of m) m x))
  unfolding one_shot_of
  counts_right = (rw accepted, rw accepted, rw accepted)

-- Registers worked out from a log are those that the rule gives, event by event: `replayed` replaces one register an event. Each stands in its record, with
-- the number of the log's events that extended it behind it.
module _ (log out : List ℕ) (at : Layout) (e : reading_of log ≡ Ok at) (room : 34 * at.registers ≤ length out) where
  pub registers_right : (check_number (check_of log (length out)) ≡ 0)
      × (check_buffer log out
      ≡ records_of (replayed (salt_in_effect (salt_of log at)) (event_list at.events (events_of log at)) (starts_of log at)) (event_list at.events (events_of log at)) at.registers
      ++ drop (34 * at.registers) out)
  unfolding checked_at log_records ends_of end_values
  registers_right = (rw (← check_answer log at e (length out) refl, le-ltb (length out) (34 * at.registers) room), recorded log at e out room)
