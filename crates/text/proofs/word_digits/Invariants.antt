-- The digits of what is left of the word stand before those that are filled in.
use mathlib.Core.Path.{◌≡◌}
use mathlib.Core.List.{◌++◌}
use lib.ListN.{length, drop}
use Rattle.text.specs.Digits.{hex_in, upper_of, upper}
use Rattle.text.proofs.word_digits.Given as goal

abbrev pub invariant-loop-i : goal.invariant-loop-i
invariant-loop-i l = record {
  room : length l.digits ≡ 8;
  filled : upper_of l.w ≡ hex_in upper l.i l.rest ++ drop l.i l.digits;
}
