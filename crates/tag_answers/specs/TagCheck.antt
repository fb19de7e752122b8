-- The number and value of what a tag check answers (document 02, Eight: "a check that says yes exactly for the right tag").
use Rattle.std.specs.Prelude.{Bool, true, false, ℕ, Result, Ok, Err}
use Rattle.answers.specs.declared.refusal.Refusal.{Refusal}
use Rattle.answers.specs.Refusal.{Answer, number_of}
use Rattle.answers.specs.Handed.{made_if}

-- whether the tag is right, or a refusal
abbrev pub TagCheck : Type 0
TagCheck = Result Bool Refusal

-- 0 where the call is accepted
abbrev pub tag_check_number : TagCheck → ℕ
tag_check_number c = number_of c

-- no on a refusal
abbrev pub tag_check_yes : TagCheck → Bool
tag_check_yes (Ok right) = right
tag_check_yes (Err r) = false

-- the answer of a check whose tag is right or not
abbrev pub tag_checked : Answer → Bool → TagCheck
tag_checked a right = made_if a right
