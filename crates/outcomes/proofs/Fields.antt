-- Each public call of `fields` has only one outcome: the number or bytes read, or the buffer.
use mathlib.Core.Path.{◌≡◌}
use mathlib.Core.Bool.{Bool}
use mathlib.Core.List.{List}
use Prim.Native.Nat.{ℕ, ◌<◌}
use lib.ListN.{get_or, take, drop, replicate}
use lib.Seq.{sets}
use Rattle.outcome.specs.Outcome.{OneOutcome}
use Rattle.outcome.proofs.Outcome.{one}
use Rattle.fields.specs.Fields.{le, bytes_of, number_at, same}

-- `byte_at`
pub byte_at_one : (bytes : List ℕ) (i : ℕ) → OneOutcome (λ (r : ℕ). (r ≡ get_or bytes i 0) × (r < 256))
unfolding OneOutcome
byte_at_one bytes i r s p q = one (get_or bytes i 0) r s p.0 q.0

-- `number_at`
pub number_at_one : (bytes : List ℕ) (i : ℕ) → OneOutcome (λ (r : ℕ). r ≡ number_at bytes i)
number_at_one bytes i = one (number_at bytes i)

-- `part`
pub part_one : (bytes : List ℕ) (from count : ℕ) → OneOutcome (λ (r : List ℕ). r ≡ take count (drop from bytes))
part_one bytes from count = one (take count (drop from bytes))

-- `put_number`
pub put_number_one : (out : List ℕ) (at count value : ℕ) → OneOutcome (λ (b : List ℕ). b ≡ sets out at (le count value))
put_number_one out at count value = one (sets out at (le count value))

-- `put_bytes`
pub put_bytes_one : (out : List ℕ) (at : ℕ) (bytes : List ℕ) → OneOutcome (λ (b : List ℕ). b ≡ sets out at bytes)
put_bytes_one out at bytes = one (sets out at bytes)

-- `filled`
pub filled_one : (n : ℕ) (bytes : List ℕ) → OneOutcome (λ (b : List ℕ). b ≡ sets (replicate n 0) 0 bytes)
filled_one n bytes = put_bytes_one (replicate n 0) 0 bytes

-- `put_words`
pub put_words_one : (out : List ℕ) (at : ℕ) (words : List ℕ) → OneOutcome (λ (b : List ℕ). b ≡ sets out at (bytes_of words))
put_words_one out at words = put_bytes_one out at (bytes_of words)

-- `same`
pub same_one : (a b : List ℕ) → OneOutcome (λ (r : Bool). r ≡ same a b)
same_one a b = one (same a b)
