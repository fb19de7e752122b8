-- The number and values of what finish and one-shot report (document 01: "those of finish and one-shot report covered and compressed as 0";
-- document 02, Five: "the report of coverage becomes bytes and bits").
use Rattle.std.specs.Prelude.{ℕ, Result, Ok, Err}
use Rattle.answers.specs.declared.refusal.Refusal.{Refusal}
use Rattle.answers.specs.Refusal.{Answer, number_of}
use Rattle.answers.specs.Handed.{made_if}
use Rattle.reports.specs.declared.Coverage.{Coverage}

-- what a digest covers, or a refusal
abbrev pub Report : Type 0
Report = Result Coverage Refusal

-- 0 where the call is accepted
abbrev pub report_number : Report → ℕ
report_number r = number_of r

-- whole bytes covered, and 0 on a refusal
abbrev pub report_covered : Report → ℕ
report_covered (Ok c) = c.covered.0
report_covered (Err r) = 0

-- last bits covered, and 0 on a refusal
abbrev pub report_bits : Report → ℕ
report_bits (Ok c) = c.bits
report_bits (Err r) = 0

-- blocks compressed, and 0 on a refusal
abbrev pub report_blocks : Report → ℕ
report_blocks (Ok c) = c.blocks
report_blocks (Err r) = 0

-- the report of a call's answer
abbrev pub reported : Answer → ℕ → ℕ → ℕ → Report
reported a n c k = made_if a (record { covered = record { 0 = n }; bits = c; blocks = k })
