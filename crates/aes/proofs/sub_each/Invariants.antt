-- After i turns the S-box is put at the first i places.
use Rattle.sbox.specs.Sbox.{sbox_of}
use Rattle.aes.proofs.Columns.{Turned}
use Rattle.aes.proofs.sub_each.Given as goal

abbrev pub invariant-loop-i : goal.invariant-loop-i
invariant-loop-i l = Turned 0 sbox_of 16 l.initial.t l.t l.i
