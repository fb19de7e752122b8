-- Which numbers each call can answer.
use mathlib.Core.Path.{◌≡◌, refl}
use mathlib.Core.Bool.{Bool, true, false, not}
use mathlib.Core.List.{List, [], ◌∷◌, ◌++◌, map, Memᴰ}
use Prim.Native.Nat.{ℕ, ◌+◌, ◌*◌}
use lib.Dec.{ltb}
use lib.ListN.{length}
use Rattle.answers.specs.declared.refusal.Refusal.{Refusal}
use Rattle.answers.specs.declared.refusal.Refusal.TheVariants.{SaltSize, StateInconsistent, BufferShort, SectionCount, EventRegister}
use Rattle.answers.specs.Refusal.{Answer}
use Rattle.std.specs.Prelude.{Result, Ok, Err}
use Rattle.log_answers.specs.declared.reading.Layout.{Layout}
use Rattle.log_answers.specs.declared.reading.Fault.{Fault}
use Rattle.answers.specs.Refusal.{refusal_number, answer_number, judged}
use Rattle.reports.specs.Report.{report_number, reported}
use Rattle.log_answers.specs.Reading.{fault, reading_number}
use Rattle.answers.specs.Written.{written_number, written_if}
use Rattle.tag_answers.specs.Tagged.{tagged_number, tagged}
use Rattle.tag_answers.specs.TagCheck.{tag_check_number, tag_checked}
use Rattle.family.specs.Family.{chain_words, salt_bytes}
use Rattle.saved_form.specs.Form.{salt_words, salt_place, chain_place, covered_place, held_place}
use Rattle.loading.specs.Reading.{family_in, rest_in, section_tests, family_tests, end_tests, form_tests}
use Rattle.records.specs.Events.{event_list}
use Rattle.logger.specs.Write.{registers_in, events_in, starts_fit, events_fit, foreign, parts_answer, log_for, write_answer}
use Rattle.answers.proofs.Judged.{judged_first}
use Rattle.layout.specs.Layout.{salt_count, reading_of}
use Rattle.bad_logs.specs.Steps.{Next, refusal, Bad}
use Rattle.bad_logs.specs.Steps as steps
use Rattle.bad_logs.proofs.Reach.{refused_bad}

-- ---- a call's tests
-- the numbers of a list of tests
abbrev numbers : List (Bool × Refusal) → List ℕ
numbers ts = map (λ t. refusal_number t.1) ts

skip : {n a b : ℕ} {l : List ℕ} → Memᴰ n (a ∷ l) → Memᴰ n (a ∷ b ∷ l)
skip (mathlib.Core.List.Memᴰ.head e) = mathlib.Core.List.Memᴰ.head e
skip (mathlib.Core.List.Memᴰ.tail m) = mathlib.Core.List.Memᴰ.tail (mathlib.Core.List.Memᴰ.tail m)

-- The tests decide between 0 and their own numbers.
pub judged_listed : (ts : List (Bool × Refusal)) → Memᴰ (answer_number (judged ts)) (0 ∷ numbers ts)
judged_listed [] = mathlib.Core.List.Memᴰ.head refl
judged_listed ((true, r) ∷ ts) = mathlib.Core.List.Memᴰ.tail (mathlib.Core.List.Memᴰ.head refl)
judged_listed ((false, r) ∷ ts) = skip (judged_listed ts)

-- Tests whose numbers are all in a list decide between 0 and that list.
pub data Among (l : List ℕ) : List (Bool × Refusal) → Type 0 where
  none : Among l []
  more : {t : Bool} {r : Refusal} {ts : List (Bool × Refusal)} → Memᴰ (refusal_number r) l → Among l ts → Among l ((t, r) ∷ ts)

pub judged_among : {l : List ℕ} {ts : List (Bool × Refusal)} → Among l ts → Memᴰ (answer_number (judged ts)) (0 ∷ l)
judged_among none = mathlib.Core.List.Memᴰ.head refl
judged_among (more {t = true} h a) = mathlib.Core.List.Memᴰ.tail h
judged_among (more {t = false} h a) = judged_among a

pub both_among : {l : List ℕ} {ts us : List (Bool × Refusal)} → Among l ts → Among l us → Among l (ts ++ us)
both_among none b = b
both_among (more h a) b = more h (both_among a b)

pub written_number_lem : (a : Answer) (n : ℕ) → written_number (written_if a n) ≡ answer_number a
written_number_lem (Ok u) n = refl
written_number_lem (Err r) n = refl

pub reported_number : (a : Answer) (n c k : ℕ) → report_number (reported a n c k) ≡ answer_number a
reported_number (Ok u) n c k = refl
reported_number (Err r) n c k = refl

pub tagged_number_lem : (a : Answer) (n : ℕ) → tagged_number (tagged a n) ≡ answer_number a
tagged_number_lem (Ok u) n = refl
tagged_number_lem (Err r) n = refl

pub tag_checked_number : (a : Answer) (right : Bool) → tag_check_number (tag_checked a right) ≡ answer_number a
tag_checked_number (Ok u) true = refl
tag_checked_number (Ok u) false = refl
tag_checked_number (Err r) right = refl

-- ---- a log's writing
pub write_listed : (salt starts events : List ℕ) (wish : Bool) (room : ℕ) → Memᴰ (answer_number (write_answer salt starts events wish room)) (0 ∷ 2 ∷ 7 ∷ 8 ∷ 5 ∷ [])
unfolding write_answer parts_answer
write_listed salt starts events wish room =
    let l : List ℕ = 2 ∷ 7 ∷ 8 ∷ 5 ∷ [] in
    let ts : List (Bool × Refusal) =
    (not (salt_count (length salt)), SaltSize) ∷ (not (starts_fit starts), SectionCount) ∷ (not (events_fit events), SectionCount)
    ∷ (foreign (registers_in starts) (event_list (events_in events) events), EventRegister) ∷ [] in
    let us : List (Bool × Refusal) = (ltb room (length (log_for salt starts events wish)), BufferShort) ∷ [] in
    let seven : Memᴰ 7 l = mathlib.Core.List.Memᴰ.tail (mathlib.Core.List.Memᴰ.head refl) in
    let eight : Memᴰ 8 l = mathlib.Core.List.Memᴰ.tail (mathlib.Core.List.Memᴰ.tail (mathlib.Core.List.Memᴰ.head refl)) in
    let five : Memᴰ 5 l = mathlib.Core.List.Memᴰ.tail (mathlib.Core.List.Memᴰ.tail (mathlib.Core.List.Memᴰ.tail (mathlib.Core.List.Memᴰ.head refl))) in
    let parts : Among l ts = more (mathlib.Core.List.Memᴰ.head refl) (more seven (more seven (more eight none))) in
    let room : Among l us = more five none in
    rw (← judged_first ts us) (judged_among (both_among parts room))

-- ---- a log's reading
abbrev pub log_numbers : List ℕ
log_numbers = 6 ∷ 7 ∷ 8 ∷ []

pub data Read : Result Layout Fault → Type 0 where
  whole : {at : Layout} → Read (Ok at)
  refused : {r : Refusal} {o : ℕ} → Memᴰ (refusal_number r) log_numbers → Read (Err (fault r o))

six : Memᴰ 6 log_numbers
six = mathlib.Core.List.Memᴰ.head refl

seven : Memᴰ 7 log_numbers
seven = mathlib.Core.List.Memᴰ.tail (mathlib.Core.List.Memᴰ.head refl)

refusal_listed : (s : Next) → Memᴰ (refusal_number (refusal s)) log_numbers
refusal_listed steps.salt = seven
refusal_listed (steps.salt_bytes n) = six
refusal_listed steps.registers = seven
refusal_listed (steps.register_bytes r) = six
refusal_listed (steps.events r) = seven
refusal_listed (steps.event r n) = mathlib.Core.List.Memᴰ.tail (mathlib.Core.List.Memᴰ.tail (mathlib.Core.List.Memᴰ.head refl))
refusal_listed (steps.claims r) = seven
refusal_listed (steps.claim_bytes n) = six
refusal_listed steps.end = six

bad_listed : {log : List ℕ} {r : Refusal} {o : ℕ} → Bad log r o → Memᴰ (refusal_number r) log_numbers
bad_listed (steps.cut p h) = six
bad_listed (steps.wrong {s = s} p h g) = refusal_listed s
bad_listed (steps.extra p h) = six

pub reading_read : (log : List ℕ) → Read (reading_of log)
reading_read log = by (reading_of log) refl
  where
    by : (x : Result Layout Fault) → reading_of log ≡ x → Read x
    by (Ok at) e = whole
    by (Err f) e = refused (bad_listed (refused_bad log f.refusal f.offset e))

-- its number is 0 or one of these
pub reading_listed : {x : Result Layout Fault} → Read x → Memᴰ (reading_number x) (0 ∷ log_numbers)
reading_listed whole = mathlib.Core.List.Memᴰ.head refl
reading_listed (refused h) = mathlib.Core.List.Memᴰ.tail h

-- ---- a saved form's reading
-- 9, 10 and 4
abbrev form_numbers : List ℕ
form_numbers = 9 ∷ 10 ∷ 4 ∷ []

nine : Memᴰ 9 form_numbers
nine = mathlib.Core.List.Memᴰ.head refl

ten : Memᴰ 10 form_numbers
ten = mathlib.Core.List.Memᴰ.tail (mathlib.Core.List.Memᴰ.head refl)

section_among : (form : List ℕ) (i count size : ℕ) → Among form_numbers (section_tests form i count size)
unfolding section_tests
section_among form i count size = more nine (more ten (more nine none))

pub form_among : (form : List ℕ) (t : Bool) → Among form_numbers (form_tests form ++ ((t, StateInconsistent) ∷ []))
unfolding form_tests family_tests end_tests
form_among form t =
    let f = family_in form in
    both_among
    (both_among (section_among form 0 2 4)
    (both_among (more ten none)
    (both_among (section_among form salt_place (salt_words f) (salt_bytes f))
    (both_among (section_among form (chain_place f) (chain_words f) (4 * chain_words f))
    (both_among (section_among form (covered_place f) 1 8)
    (both_among (section_among form (held_place f) (rest_in form) (rest_in form)) (more nine none)))))))
    (more (mathlib.Core.List.Memᴰ.tail (mathlib.Core.List.Memᴰ.tail (mathlib.Core.List.Memᴰ.head refl))) none)
