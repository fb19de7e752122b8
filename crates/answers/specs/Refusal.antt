-- The numbers given on refusal (documents 01 and 02), and the number of each answer.
use Rattle.std.specs.Prelude.{Bool, true, false, List, [], ◌∷◌, ℕ, Result, Ok, Err}
use Rattle.answers.specs.declared.refusal.Refusal.{Refusal}
use Rattle.answers.specs.declared.refusal.Refusal.TheVariants.{DigestLength, SaltSize, MessageLimit, StateInconsistent, BufferShort, LogExtent, SectionCount, EventRegister, FormExtent, FormCount, BitsUnfit, KeyLong}

-- document 01's table of refusals; then document 02's, One: a saved form cut or with bytes left over, a count that doesn't fit or a family over 1;
-- Five: more than 7 last bits or unused bits not zero; Eight: a key of over 65,535 bytes
abbrev pub refusal_number : Refusal → ℕ
refusal_number DigestLength = 1
refusal_number SaltSize = 2
refusal_number MessageLimit = 3
refusal_number StateInconsistent = 4
refusal_number BufferShort = 5
refusal_number LogExtent = 6
refusal_number SectionCount = 7
refusal_number EventRegister = 8
refusal_number FormExtent = 9
refusal_number FormCount = 10
refusal_number BitsUnfit = 11
refusal_number KeyLong = 12

-- what a call answers that has no value of its own: accepted, or a refusal
abbrev pub Answer : Type 0
Answer = Result (Unit {0}) Refusal

-- 0 where the call is accepted, whatever its value
abbrev pub number_of : {T : Type 0} → Result T Refusal → ℕ
number_of (Ok x) = 0
number_of (Err r) = refusal_number r

abbrev pub answer_number : Answer → ℕ
answer_number a = number_of a

-- The tests of a call in their order, each with the refusal given where it holds: the first that holds decides. No refusal is given otherwise.
abbrev pub judged : List (Bool × Refusal) → Answer
judged [] = Ok tt
judged (t ∷ ts) = elim t.0 [ true ↦ Err t.1 | false ↦ judged ts ]

abbrev pub if_accepted : {A : Type 0} → Answer → A → A → A
if_accepted (Ok u) a b = a
if_accepted (Err r) a b = b

-- the first refusal of two answers
abbrev pub first_of : Answer → Answer → Answer
first_of (Ok u) next = next
first_of (Err r) next = Err r
