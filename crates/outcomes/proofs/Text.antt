-- Each public call of `text`, `hex`, `decimal` and `printout` has only one outcome: what it answers, and the buffer.
use mathlib.Core.Path.{◌≡◌}
use mathlib.Core.List.{List}
use Prim.Native.Nat.{ℕ}
use lib.ListN.{length, take}
use Rattle.outcome.specs.Outcome.{OneOutcome}
use Rattle.outcome.proofs.Outcome.{one, one_pair}
use Rattle.answers.specs.Written.{Written}
use Rattle.text.specs.Digits.{hex_of, upper_of, decimal_of}
use Rattle.text.specs.Place.{placed, place_after}
use Rattle.std.specs.Prelude.{Result, Option}
use Rattle.hex_bytes.specs.declared.HexError.{HexError}
use Rattle.hex_bytes.specs.Hex.{decode_of, decode_buffer}
use Rattle.decimal.specs.Decimal.{number_of}
use Rattle.printout.specs.Printout.{printout_of, print_of}

-- what every call of `text` that puts xs promises
abbrev pub Puts : List ℕ → ℕ → List ℕ → ℕ × List ℕ → Type 0
Puts out at xs o = (o.0 ≡ place_after (length out) at xs) × (o.1 ≡ placed out at xs)

-- `put`
pub put_one : (out : List ℕ) (at : ℕ) (bytes : List ℕ) → OneOutcome (Puts out at bytes)
put_one out at bytes = one_pair (place_after (length out) at bytes) (placed out at bytes)

-- `put_hex`
pub put_hex_one : (out : List ℕ) (at : ℕ) (bytes : List ℕ) → OneOutcome (Puts out at (hex_of bytes))
put_hex_one out at bytes = put_one out at (hex_of bytes)

-- `put_word`
pub put_word_one : (out : List ℕ) (at w : ℕ) → OneOutcome (Puts out at (upper_of w))
put_word_one out at w = put_one out at (upper_of w)

-- `put_decimal`
pub put_decimal_one : (out : List ℕ) (at n : ℕ) → OneOutcome (Puts out at (decimal_of n))
put_decimal_one out at n = put_one out at (decimal_of n)

-- `first`
pub first_one : (bytes : List ℕ) (n : ℕ) → OneOutcome (λ (r : List ℕ). r ≡ take n bytes)
first_one bytes n = one (take n bytes)

-- `decimal::read`
pub number_read_one : (text : List ℕ) → OneOutcome (λ (r : Option ℕ). r ≡ number_of text)
number_read_one text = one (number_of text)

-- `print`
pub print_one : (log out : List ℕ) → OneOutcome (λ (o : Written × List ℕ). (o.0 ≡ print_of log (length out)) × (o.1 ≡ placed out 0 (printout_of log)))
print_one log out = one_pair (print_of log (length out)) (placed out 0 (printout_of log))

-- `decode`
pub decode_one : (text out : List ℕ) → OneOutcome (λ (o : Result ℕ HexError × List ℕ). (o.0 ≡ decode_of text (length out)) × (o.1 ≡ decode_buffer text out))
decode_one text out = one_pair (decode_of text (length out)) (decode_buffer text out)
