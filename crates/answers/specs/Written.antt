-- The length of what a call answers that writes to the front of a lent buffer: 0 on a refusal.
use Rattle.std.specs.Prelude.{List, ◌++◌, ℕ, length, drop, Result, Ok, Err}
use Rattle.answers.specs.declared.refusal.Refusal.{Refusal}
use Rattle.answers.specs.Refusal.{Answer, number_of, if_accepted}
use Rattle.answers.specs.Handed.{made_if}

-- how many bytes are written, or a refusal
abbrev pub Written : Type 0
Written = Result ℕ Refusal

-- 0 where the bytes are written
abbrev pub written_number : Written → ℕ
written_number w = number_of w

-- how many bytes, and 0 on a refusal
abbrev pub written_length : Written → ℕ
written_length (Ok n) = n
written_length (Err r) = 0

-- what a call answers that writes n bytes where it is accepted
abbrev pub written_if : Answer → ℕ → Written
written_if a n = made_if a n

-- the first bytes of a buffer replaced by what a call made, and no others
abbrev pub written : Answer → List ℕ → List ℕ → List ℕ
written a made out = if_accepted a (made ++ drop (length made) out) out
