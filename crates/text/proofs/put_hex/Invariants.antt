-- Each turn stores the next byte's two digits, and the digits of the rest are stored behind them.
use Prim.Native.Nat.{◌+◌, ◌*◌}
use mathlib.Core.Path.{◌≡◌}
use lib.ListN.{drop}
use lib.Seq.{sets}
use Rattle.text.specs.Digits.{hex_of}
use Rattle.text.proofs.put_hex.Given as goal

abbrev pub invariant-loop-i : goal.invariant-loop-i
invariant-loop-i l = sets l.initial.out l.at (hex_of l.bytes) ≡ sets l.out (l.at + 2 * l.i) (hex_of (drop l.i l.bytes))
