-- A written log's length, and what reading it gives back (document 02, Three: "reading its sections gives back those same parts").
use mathlib.Core.Path.{◌≡◌, refl}
use mathlib.Core.Bool.{Bool, true, false, cond}
use mathlib.Core.List.{List, [], ◌∷◌}
use mathlib.Core.Logic.{◌⊎◌, inl, inr}
use Prim.Native.Nat.{ℕ, ◌+◌, ◌*◌, ◌≤◌}
use native.Mathlib.Omega.{arith}
use lib.Dec.{ltb}
use lib.ListN.{length, take, drop}
use lib.Seq.{take_at, drop_at}
use Rattle.answers.specs.declared.refusal.Refusal.TheVariants.{BufferShort}
use Rattle.answers.specs.Refusal.{Answer}
use Rattle.std.specs.Prelude.{Ok, Err}
use Rattle.answers.specs.Refusal.{judged, first_of}
use Rattle.log_answers.specs.declared.reading.Layout.{Layout}
use Rattle.std.specs.Prelude.{Ok}
use Rattle.layout.specs.Layout.{reading_of, salt_of, starts_of, events_of, claims_of}
use Rattle.layout.proofs.Spelled.{Fitting, layout_for, spelled_length, spelled_read, spelled_salt, spelled_starts, spelled_events, spelled_claims}
use Rattle.bad_logs.proofs.Far.{accepted_size}
use Rattle.logger.specs.Write.{registers_in, events_in, parts_answer, claims_for, log_for, write_answer, write_of, write_buffer}
use Rattle.logger.proofs.Parts.{parts_fit, end_values_length}

-- none, or as many as there are registers
claim_count_lem : (wish : Bool) (r : ℕ) → (cond wish r 0 ≡ 0) ⊎ (cond wish r 0 ≡ r)
claim_count_lem false r = inl refl
claim_count_lem true r = inr refl

claims_length : (salt starts events : List ℕ) (wish : Bool) → parts_answer salt starts events ≡ Ok tt
    → length (claims_for salt starts events wish) ≡ 32 * cond wish (registers_in starts) 0
unfolding claims_for
claims_length salt starts events false ok = refl
claims_length salt starts events true ok = end_values_length salt starts events ok

-- parts that are not refused
module _ (salt starts events : List ℕ) (wish : Bool) (ok : parts_answer salt starts events ≡ Ok tt) where
  -- as many claims as wished for
  abbrev pub claimed : ℕ
  claimed = cond wish (registers_in starts) 0

  abbrev pub placed : Layout
  placed = layout_for salt (registers_in starts) (events_in events) claimed

  -- they fit, and the log is spelled from them
  pub written_fit : Fitting salt starts events (claims_for salt starts events wish) (registers_in starts) (events_in events) claimed
  written_fit =
      parts_fit salt starts events (claims_for salt starts events wish) claimed ok
      (claims_length salt starts events wish ok) (claim_count_lem wish (registers_in starts))

  pub written_length_lem : length (log_for salt starts events wish) ≡ 8 + length salt + length starts + length events + 32 * claimed
  unfolding log_for
  written_length_lem = omega (arith, written_fit.starts, written_fit.events, spelled_length _ _ _ _ _ _ _ written_fit)

  -- The longest log written has 38,440 bytes.
  pub written_most : length (log_for salt starts events wish) ≤ 38440
  unfolding log_for
  written_most = accepted_size (log_for salt starts events wish) placed (spelled_read _ _ _ _ _ _ _ written_fit)

  pub written_read : reading_of (log_for salt starts events wish) ≡ Ok placed
  unfolding log_for
  written_read = spelled_read _ _ _ _ _ _ _ written_fit

  pub written_salt : salt_of (log_for salt starts events wish) placed ≡ salt
  unfolding log_for
  written_salt = spelled_salt _ _ _ _ _ _ _ written_fit

  pub written_starts : starts_of (log_for salt starts events wish) placed ≡ starts
  unfolding log_for
  written_starts = spelled_starts _ _ _ _ _ _ _ written_fit

  pub written_events : events_of (log_for salt starts events wish) placed ≡ events
  unfolding log_for
  written_events = spelled_events _ _ _ _ _ _ _ written_fit

  -- no claims, or the end values
  pub written_claims : claims_of (log_for salt starts events wish) placed ≡ claims_for salt starts events wish
  unfolding log_for
  written_claims = spelled_claims _ _ _ _ _ _ _ written_fit

-- Where write is not refused, the buffer begins with the log, and the bytes past it stay.
module _ (salt starts events : List ℕ) (wish : Bool) (out : List ℕ) (ok : write_answer salt starts events wish (length out) ≡ Ok tt) where
  pub parts_accepted : parts_answer salt starts events ≡ Ok tt
  unfolding write_answer
  parts_accepted = by (parts_answer salt starts events) ok
    where
      by : (a : Answer) → first_of a (judged ((ltb (length out) (length (log_for salt starts events wish)), BufferShort) ∷ [])) ≡ Ok tt → a ≡ Ok tt
      by (Ok u) h = refl
      by (Err r) h = h

  pub written_front : take (length (log_for salt starts events wish)) (write_buffer salt starts events wish out) ≡ log_for salt starts events wish
  unfolding write_buffer
  written_front =
      let log = log_for salt starts events wish in
      rw ok (take_at log (drop (length log) out) (length log) refl)

  pub written_behind : drop (length (log_for salt starts events wish)) (write_buffer salt starts events wish out) ≡ drop (length (log_for salt starts events wish)) out
  unfolding write_buffer
  written_behind =
      let log = log_for salt starts events wish in
      rw ok (drop_at log (drop (length log) out) (length log) refl)

  -- and the length answered is the log's
  pub written_answer : write_of salt starts events wish (length out) ≡ Ok (length (log_for salt starts events wish))
  unfolding write_of
  written_answer = rw ok
