-- After c turns the first c columns are done.
use mathlib.Core.List.{List, []}
use Prim.Native.Nat.{ℕ}
use Rattle.aes.specs.Round.{four, mix_byte}
use Rattle.aes.proofs.Columns.{Turned}
use Rattle.aes.proofs.mix_columns.Given as goal

abbrev pub done : List ℕ → List ℕ
done a = four (λ r. mix_byte r a)

abbrev pub invariant-loop-c : goal.invariant-loop-c
invariant-loop-c l = Turned [] done 4 l.initial.t l.t l.c
