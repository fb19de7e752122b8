-- Each turn puts the byte of one more pair behind those of the pairs before.
use mathlib.Core.Path.{◌≡◌}
use mathlib.Core.List.{◌++◌}
use lib.ListN.{drop}
use Rattle.hex_bytes.specs.Hex.{pairs}
use Rattle.hex_bytes.proofs.put_pairs.Given as goal

abbrev pub invariant-loop-i : goal.invariant-loop-i
invariant-loop-i l = l.out ≡ pairs l.i l.text ++ drop l.i l.initial.out
