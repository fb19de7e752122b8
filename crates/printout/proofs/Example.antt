-- Document 01's example: the log of 40 bytes, and the two lines of its check, the second with the number of extensions that document 02, Four adds.
use mathlib.Core.Path.{◌≡◌, refl}
use mathlib.Core.List.{List, [], ◌∷◌, ◌++◌}
use Prim.Native.Nat.{ℕ}
use lib.ListN.{replicate}
use Rattle.fields.specs.Fields.{le, number_in}
use Rattle.layout.specs.Layout.{section_end, events_end, salt_end, registers_end, event_section_end, claims_end, reading_of, salt_of, starts_of, events_of}
use Rattle.records.specs.Events.{event_list, digests_for, extensions}
use Rattle.records.specs.Records.{joined, register_at, record_of, value_at, extensions_at}
use Rattle.bootlog.specs.Replay.{replayed, end_values, replay_blocks}
use Rattle.bootlog.specs.Check.{ends_of, log_records, verdict_of, checked_at, check_of, check_buffer}
use Rattle.text.specs.Digits.{digit, hex_in, hex_of, decimal_in, decimal_of}
use Rattle.printout.specs.Printout.{feed, verdict_text, register_line, spaced, text_of, printout_of}

-- 00 00, 01 00, thirty-two 00, 00 00, 00 00
abbrev pub smallest : List ℕ
smallest = 0 ∷ 0 ∷ 1 ∷ 0 ∷ (replicate 32 0 ++ (0 ∷ 0 ∷ 0 ∷ 0 ∷ []))

-- "accepted 1 0 0 noclaim", then "0 0 " and sixty-four digits 0
abbrev pub lines : List ℕ
lines = 97 ∷ 99 ∷ 99 ∷ 101 ∷ 112 ∷ 116 ∷ 101 ∷ 100 ∷ 32 ∷ 49 ∷ 32 ∷ 48 ∷ 32 ∷ 48 ∷ 32 ∷ 110 ∷ 111 ∷ 99 ∷ 108 ∷ 97 ∷ 105 ∷ 109 ∷ 10 ∷ 48 ∷ 32 ∷ 48 ∷ 32 ∷ (replicate 64 48 ++ feed)

pub example : printout_of smallest ≡ lines
unfolding printout_of text_of spaced register_line verdict_text digit hex_in hex_of decimal_in decimal_of check_buffer check_of checked_at verdict_of log_records ends_of end_values replay_blocks replayed joined value_at extensions_at record_of register_at extensions digests_for event_list events_of starts_of salt_of reading_of claims_end event_section_end registers_end salt_end events_end section_end number_in le
example = refl
