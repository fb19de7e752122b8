-- Each turn xors one more byte.
use mathlib.Core.Path.{◌≡◌}
use mathlib.Core.List.{◌++◌}
use lib.ListN.{take, drop}
use Rattle.keyed.specs.Hmac.{repeated, ◌⊕◌}
use Rattle.keyed.proofs.bytes.xored.Given as goal

abbrev pub invariant-loop-b : goal.invariant-loop-b
invariant-loop-b l = l.b-items ≡ take l.b-index (l.fn.block ⊕ repeated 128 l.pad) ++ drop l.b-index l.fn.block
