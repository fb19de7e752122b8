use borrow.Author.Rules.{rules}
use mathlib.Core.Path.{refl, ◌∙◌}
use native.Mathlib.Omega.{arith}
use lib.ListN.{length-set}
use Rattle.compress.proofs.Fours.{word_part}
use Rattle.compress.proofs.Growing.{words_none, words_step}
use Rattle.expanded.proofs.expansion.load.Goals as goal

pub loop-j-init : goal.loop-j-init
loop-j-init c = (search rules, refl, words_none c.args.bytes.now c.args.w.now)

pub loop-j-preserved : goal.loop-j-preserved
loop-j-preserved c =
    let at = c.loop-j in
    let a = c.args in (
      omega arith,
      simp length-set at.invariant.1,
      rw (c.word_of.ensures ∙ word_part a.bytes.now _ _ at.j (omega arith) (omega arith)) (words_step a.bytes.now a.w.now at.w at.j (omega arith) at.invariant.2),
    )
