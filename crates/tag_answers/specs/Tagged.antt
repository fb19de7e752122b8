-- The number and value of what a keyed finish reports (document 02, Eight: "Finish reports the message's bytes without the key block, and no blocks").
use Rattle.std.specs.Prelude.{ℕ, Result, Ok, Err}
use Rattle.answers.specs.declared.refusal.Refusal.{Refusal}
use Rattle.answers.specs.Refusal.{Answer, number_of}
use Rattle.answers.specs.Handed.{made_if}
use Rattle.reports.specs.declared.Length.{Length}

-- the message's bytes, or a refusal
abbrev pub Tagged : Type 0
Tagged = Result Length Refusal

-- 0 where the call is accepted
abbrev pub tagged_number : Tagged → ℕ
tagged_number t = number_of t

-- bytes covered, and 0 on a refusal
abbrev pub tagged_covered : Tagged → ℕ
tagged_covered (Ok n) = n.0
tagged_covered (Err r) = 0

-- the report of a call's answer
abbrev pub tagged : Answer → ℕ → Tagged
tagged a n = made_if a (record { 0 = n })
