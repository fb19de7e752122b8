-- How much room the check of a log needs.
use mathlib.Core.Path.{◌≡◌, refl}
use mathlib.Core.List.{List}
use Prim.Native.Nat.{ℕ, ◌*◌, ◌≤◌}
use native.Mathlib.Omega.{arith}
use borrow.Author.Tests.{le-ltb}
use Rattle.log_answers.specs.declared.reading.Layout.{Layout}
use Rattle.layout.specs.Layout.{reading_of}
use Rattle.log_answers.specs.Checked.{check_number}
use Rattle.bootlog.specs.Check.{checked_at, check_of}
use Rattle.layout.proofs.Sizes.{counts}
use Rattle.bootlog.proofs.Verdicts.{check_answer}
use Rattle.std.specs.Prelude.{Ok}

-- A buffer of 816 bytes is never too short for a check: a log that is read whole is accepted.
pub check_room : (log : List ℕ) (at : Layout) → reading_of log ≡ Ok at → (room : ℕ) → 816 ≤ room → check_number (check_of log room) ≡ 0
unfolding checked_at
check_room log at e room h = rw (← check_answer log at e room refl, le-ltb room (34 * at.registers) (omega (arith, (counts log at e).most)))
