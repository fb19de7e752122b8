-- What the test of a text tells of its digits.
use mathlib.Core.Path.{◌≡◌}
use mathlib.Core.Bool.{true}
use mathlib.Core.List.{List}
use Prim.Native.Nat.{ℕ, ◌%◌}
use lib.Dec.{eqb}
use lib.ListN.{length}
use Rattle.answers.proofs.Tests.{and_right}
use Rattle.hex_bytes.specs.Hex.{digits, is_hex}

pub hex_digits : (text : List ℕ) → is_hex text ≡ true → digits text ≡ true
unfolding is_hex
hex_digits text h = and_right (eqb (length text % 2) 0) (digits text) h
