-- The characters that are left decide: those before are digits, and n is what they spell.
use mathlib.Core.Path.{◌≡◌}
use Prim.Native.Nat.{◌<◌}
use lib.ListN.{drop}
use Rattle.decimal.specs.Decimal.{digits, spelled}
use Rattle.decimal.proofs.read.Given as goal

abbrev pub invariant-loop-c : goal.invariant-loop-c
invariant-loop-c l = record {
  fits : l.n < 65536;
  read : digits l.text ≡ digits (drop l.c-index l.text);
  number : spelled 0 l.text ≡ spelled l.n (drop l.c-index l.text);
}
