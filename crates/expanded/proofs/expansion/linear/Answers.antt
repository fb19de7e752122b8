use borrow.Author.Rules.{rules}
use mathlib.Core.Path.{refl}
use native.Mathlib.Nat.{add-zero}
use native.Mathlib.Omega.{arith}
use lib.ListN.{length-set}
use Rattle.words.specs.Words.{times}
use Rattle.compress.specs.Expansion.{linear_run}
use Rattle.compress.proofs.Growing.{linear_step}
use Rattle.expanded.proofs.expansion.linear.Goals as goal

pub loop-k-init : goal.loop-k-init
unfolding linear_run times
loop-k-init c = (search rules, refl, rw add-zero)

pub loop-k-preserved : goal.loop-k-preserved
loop-k-preserved c =
    let at = c.loop-k in
    let a = c.args in (
      omega arith,
      simp length-set at.invariant.1,
      linear_step a.n a.near at.w _ a.i at.k (omega arith) (omega arith) (omega arith) (omega arith) (omega arith) at.invariant.2,
    )
