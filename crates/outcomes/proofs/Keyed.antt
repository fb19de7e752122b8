-- The keyed calls, what they answer and the tests of a keyed state have only one outcome each; of finish, the result and the buffer.
use mathlib.Core.Path.{◌≡◌}
use mathlib.Core.Bool.{Bool}
use mathlib.Core.List.{List}
use Prim.Native.Nat.{ℕ}
use Rattle.outcome.specs.Outcome.{OneOutcome}
use Rattle.outcome.proofs.Outcome.{one, one_pair}
use Rattle.tag_answers.specs.Tagged.{Tagged}
use Rattle.tag_answers.specs.TagCheck.{TagCheck}
use Rattle.tag_answers.specs.TagCheck.{tag_check_number, tag_check_yes}
use Rattle.keyed_state.specs.declared.Keyed.{Keyed}
use Rattle.keyed_state.specs.Keyed.{tag_length, keyed_consistent, zero_keyed}
use Rattle.keyed.specs.Calls.{Step}
use Rattle.keyed.specs.Calls.{Finished}
use Rattle.keyed.specs.Calls.{Compared}
use Rattle.keyed.specs.Calls.{key_begin_of, key_add_of, key_finish_of, key_finish_buffer, key_check_of}

-- `number` and `covered` of what a keyed finish reports
pub tagged_one : (value : Tagged → ℕ) (x : Tagged) → OneOutcome (λ (n : ℕ). n ≡ value x)
tagged_one value x = one (value x)

-- `TagCheck::number`, `TagCheck::is_yes`
pub tag_check_one : (x : TagCheck) → OneOutcome (λ (n : ℕ). n ≡ tag_check_number x)
tag_check_one x = one (tag_check_number x)

pub yes_one : (x : TagCheck) → OneOutcome (λ (r : Bool). r ≡ tag_check_yes x)
yes_one x = one (tag_check_yes x)

-- `is_tag_length`, `consistent`, `zero_keyed`
pub tag_length_one : (m : ℕ) → OneOutcome (λ (r : Bool). r ≡ tag_length m)
tag_length_one m = one (tag_length m)

pub keyed_consistent_one : (k : Keyed) → OneOutcome (λ (r : Bool). r ≡ keyed_consistent k)
keyed_consistent_one k = one (keyed_consistent k)

pub zero_keyed_one : OneOutcome (λ (r : Keyed). r ≡ zero_keyed)
zero_keyed_one = one zero_keyed

-- `begin`, `add`, `finish`, `check`
pub key_begin_one : (m : ℕ) (K : List ℕ) → OneOutcome (λ (r : Step). r ≡ key_begin_of m K)
key_begin_one m K = one (key_begin_of m K)

pub key_add_one : (k : Keyed) (xs : List ℕ) → OneOutcome (λ (r : Step). r ≡ key_add_of k xs)
key_add_one k xs = one (key_add_of k xs)

pub key_finish_one : (k : Keyed) (out : List ℕ) → OneOutcome (λ (o : Finished × List ℕ). (o.0 ≡ key_finish_of k out) × (o.1 ≡ key_finish_buffer k out))
key_finish_one k out = one_pair (key_finish_of k out) (key_finish_buffer k out)

pub key_check_one : (k : Keyed) (tag : List ℕ) → OneOutcome (λ (r : Compared). r ≡ key_check_of k tag)
key_check_one k tag = one (key_check_of k tag)
