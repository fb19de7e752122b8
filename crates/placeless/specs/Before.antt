-- Reading, check and text of a log before document 02's request Six: a refusal is its number, and has no place. The definitions stand as they stood.
use Rattle.std.specs.Prelude.{Bool, true, false, not, cond, List, [], ◌∷◌, ◌++◌, ℕ, zero, suc, ◌+◌, ◌*◌, eqb, leb, ltb, length, drop, replicate}
use Rattle.answers.specs.declared.refusal.Refusal.{Refusal}
use Rattle.answers.specs.declared.refusal.Refusal.TheVariants.{BufferShort, LogExtent, SectionCount, EventRegister}
use Rattle.answers.specs.Refusal.{Answer}
use Rattle.std.specs.Prelude.{Ok, Err}
use Rattle.answers.specs.Refusal.{refusal_number, judged}
use Rattle.log_answers.specs.declared.reading.Layout.{Layout}
use Rattle.log_answers.specs.declared.checked.Verdict.{Verdict}
use Rattle.fields.specs.Fields.{number_at}
use Rattle.layout.specs.Layout.{salt_count, register_count, event_count, claim_count, layout_at, salt_of, starts_of, events_of}
use Rattle.records.specs.Events.{event_list}
use Rattle.bootlog.specs.Replay.{salt_in_effect, replay_blocks}
use Rattle.bootlog.specs.Check.{log_records, verdict_of}
use Rattle.text.specs.Digits.{decimal_of}
use Rattle.printout.specs.Printout.{feed, accepted_word, refused_word, verdict_text, spaced, register_lines}

-- the next place, or a refusal
pub data EndBefore : Type 0 where
  ended : ℕ → EndBefore
  stopped : Refusal → EndBefore

pub data ReadingBefore : Type 0 where
  whole : Layout → ReadingBefore
  unread : Refusal → ReadingBefore

pub data CheckedBefore : Type 0 where
  accepted : ℕ → ℕ → ℕ → Verdict → CheckedBefore
  refused : Refusal → CheckedBefore

-- the end where the tests accept, else the refusal
abbrev pub end_if : Answer → ℕ → EndBefore
end_if (Ok u) i = ended i
end_if (Err r) i = stopped r

-- Where the section that starts at i ends: its count, whether it is allowed, and the bytes of one of its parts.
unfoldable pub section_before : List ℕ → ℕ → Bool → ℕ → EndBefore
section_before log i allowed size =
    end_if
    (judged (
    (ltb (length log) (i + 2), LogExtent) ∷ (not allowed, SectionCount) ∷ (ltb (length log) (i + 2 + size * number_at log i), LogExtent) ∷ []
    ))
    (i + 2 + size * number_at log i)

-- n events from place i.
unfoldable pub events_before : List ℕ → ℕ → ℕ → ℕ → EndBefore
events_before log registers i zero = ended i
events_before log registers i (suc n) =
    elim (judged ((ltb (length log) (i + 36), LogExtent) ∷ (leb registers (number_at log i), EventRegister) ∷ [])) [
      | Ok u ↦ events_before log registers (i + 36) n
      | Err r ↦ stopped r
    ]

abbrev pub and_then_before : EndBefore → (ℕ → EndBefore) → EndBefore
and_then_before (ended i) f = f i
and_then_before (stopped r) f = stopped r

abbrev pub reads_before : EndBefore → (ℕ → ReadingBefore) → ReadingBefore
reads_before (ended i) f = f i
reads_before (stopped r) f = unread r

-- Salt, starting registers, events, claims; nothing follows.
unfoldable pub reading_before : List ℕ → ReadingBefore
reading_before log =
    reads_before (section_before log 0 (salt_count (number_at log 0)) 1) (λ second.
    reads_before (section_before log second (register_count (number_at log second)) 32) (λ third.
    reads_before
    (and_then_before (section_before log third (event_count (number_at log third)) 0) (λ from. events_before log (number_at log second) from (number_at log third)))
    (λ fourth.
    reads_before (section_before log fourth (claim_count (number_at log second) (number_at log fourth)) 32) (λ end.
    elim (eqb (length log) end) [
      | true ↦ whole (layout_at log second third fourth)
      | false ↦ unread LogExtent
    ]))))

-- The check: 5 comes last.
unfoldable pub checked_before : List ℕ → Layout → ℕ → CheckedBefore
checked_before log at room =
    cond (ltb room (34 * at.registers))
    (refused BufferShort)
    (accepted at.registers at.events (replay_blocks (salt_in_effect (salt_of log at)) (event_list at.events (events_of log at)) (starts_of log at)) (verdict_of log at))

unfoldable pub check_before : List ℕ → ℕ → CheckedBefore
check_before log room =
    elim (reading_before log) [
      | whole at ↦ checked_before log at room
      | unread r ↦ refused r
    ]

unfoldable pub buffer_before : List ℕ → List ℕ → List ℕ
buffer_before log out =
    elim (reading_before log) [
      | whole at ↦ cond (ltb (length out) (34 * at.registers)) out (log_records log at ++ drop (34 * at.registers) out)
      | unread r ↦ out
    ]

-- A refusal is the single line "refused 6" with its number.
unfoldable pub text_before : CheckedBefore → List ℕ → List ℕ
text_before (accepted r n b v) records = accepted_word ++ (spaced r ++ (spaced n ++ (spaced b ++ (verdict_text v ++ (feed ++ register_lines records r)))))
text_before (refused x) records = refused_word ++ (decimal_of (refusal_number x) ++ feed)

unfoldable pub printout_before : List ℕ → List ℕ
printout_before log = text_before (check_before log 816) (buffer_before log (replicate 816 0))
