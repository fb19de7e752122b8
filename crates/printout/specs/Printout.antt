-- The text of one check (document 01, "Cases at the edges", and document 02, Four and Six), in ASCII. Numbers are decimal.
use Rattle.std.specs.Prelude.{cond, List, [], ◌∷◌, ◌++◌, ℕ, ltb, length, replicate, Option, Some, None, Result, Ok, Err}
use Rattle.answers.specs.declared.refusal.Refusal.{Refusal}
use Rattle.answers.specs.declared.refusal.Refusal.TheVariants.{BufferShort}
use Rattle.answers.specs.Written.{Written}
use Rattle.answers.specs.Refusal.{refusal_number}
use Rattle.log_answers.specs.declared.checked.Verdict.{Verdict}
use Rattle.log_answers.specs.declared.checked.Verdict.TheVariants.{NoClaim, Agrees, Differs}
use Rattle.log_answers.specs.declared.checked.Findings.{Findings}
use Rattle.log_answers.specs.declared.checked.Refused.{Refused}
use Rattle.records.specs.Records.{joined, value_at, extensions_at}
use Rattle.bootlog.specs.Check.{check_of, check_buffer}
use Rattle.text.specs.Digits.{decimal_of, hex_of}

-- a space, and a line feed
abbrev pub space : List ℕ
space = 32 ∷ []

abbrev pub feed : List ℕ
feed = 10 ∷ []

-- "accepted ", "refused ", " at ", "noclaim", "agrees", "differs "
abbrev pub accepted_word : List ℕ
accepted_word = 97 ∷ 99 ∷ 99 ∷ 101 ∷ 112 ∷ 116 ∷ 101 ∷ 100 ∷ space

abbrev pub refused_word : List ℕ
refused_word = 114 ∷ 101 ∷ 102 ∷ 117 ∷ 115 ∷ 101 ∷ 100 ∷ space

abbrev pub at_word : List ℕ
at_word = 32 ∷ 97 ∷ 116 ∷ space

abbrev pub noclaim_word : List ℕ
noclaim_word = 110 ∷ 111 ∷ 99 ∷ 108 ∷ 97 ∷ 105 ∷ 109 ∷ []

abbrev pub agrees_word : List ℕ
agrees_word = 97 ∷ 103 ∷ 114 ∷ 101 ∷ 101 ∷ 115 ∷ []

abbrev pub differs_word : List ℕ
differs_word = 100 ∷ 105 ∷ 102 ∷ 102 ∷ 101 ∷ 114 ∷ 115 ∷ space

-- A verdict: noclaim, agrees, or "differs 3" for register 3.
unfoldable pub verdict_text : Verdict → List ℕ
verdict_text NoClaim = noclaim_word
verdict_text Agrees = agrees_word
verdict_text (Differs r) = differs_word ++ decimal_of r

-- a number and the space behind it
unfoldable pub spaced : ℕ → List ℕ
spaced n = decimal_of n ++ space

-- A register's line: number, extensions, value in lower-case hex, byte 0 first.
unfoldable pub register_line : List ℕ → ℕ → List ℕ
register_line records r = spaced r ++ (spaced (extensions_at records r) ++ (hex_of (value_at records r) ++ feed))

-- Then one line per register from 0 up: the lines of the first n.
abbrev pub register_lines : List ℕ → ℕ → List ℕ
register_lines records n = joined (register_line records) n

-- The end of a refusal's line: its place, " at 40"; nothing where it has no place in the log.
unfoldable pub place_text : Option ℕ → List ℕ
place_text (Some i) = at_word ++ (decimal_of i ++ feed)
place_text None = feed

-- A refusal is the single line "refused 6 at 40" with its number and place; one that has no place in the log is printed with its number alone, "refused 5".
unfoldable pub refusal_line : Refusal → Option ℕ → List ℕ
refusal_line x p = refused_word ++ (decimal_of (refusal_number x) ++ place_text p)

-- Line 1: the word accepted, R, N, blocks compressed, verdict; then the registers.
unfoldable pub text_of : Result Findings Refused → List ℕ → List ℕ
text_of (Ok f) records =
    accepted_word ++ (spaced f.registers ++ (spaced f.events ++ (spaced f.blocks ++ (verdict_text f.verdict ++ (feed ++ register_lines records f.registers)))))
text_of (Err x) records = refusal_line x.refusal x.place

-- the text of a log's check; its buffer has room for 24 records, the most that a log has
unfoldable pub printout_of : List ℕ → List ℕ
printout_of log = text_of (check_of log 816) (check_buffer log (replicate 816 0))

-- The answer of print into a buffer of so many bytes: the text's length, or 5 where there is less room.
unfoldable pub print_of : List ℕ → ℕ → Written
print_of log room = cond (ltb room (length (printout_of log))) (Err BufferShort) (Ok (length (printout_of log)))
