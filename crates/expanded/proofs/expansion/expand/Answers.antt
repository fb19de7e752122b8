use borrow.Author.Rules.{rules}
use mathlib.Core.Path.{◌≡◌, ap, ◌∙◌}
use Prim.Native.Nat.{◌+◌, ◌*◌}
use native.Mathlib.Omega.{arith}
use mathlib.Core.List.{append-nil}
use lib.ListN.{drop}
use Rattle.family.specs.Family.{block_words}
use Rattle.family.specs.Family as table
use Rattle.words.specs.Words.{times}
use Rattle.compress.specs.Expansion.{expand_of}
use Rattle.compress.proofs.Growing.{runs_step, runs_all}
use Rattle.expanded.proofs.expansion.expand.Goals as goal

pub loop-r-preserved : goal.loop-r-preserved
loop-r-preserved g c = (
  omega arith,
  c.run.ensures.1 ∙ c.loop-r.invariant.1,
  runs_step c.args.family c.args.c _ _ c.loop-r.w _ c.loop-r.r c.loop-r.invariant.2 c.run.ensures.0,
)

pub returns : goal.returns
returns g c =
    let salt = c.load.ensures in
    let k : c.loop-r.r ≡ table.runs c.args.family = omega (arith, c.runs-runs.ensures) in
    let n = c.block_words in
    runs_all c.args.family c.args.c _ c.args.block.now (drop n.result c.args.w.now) _ c.loop-r.w n.result c.loop-r.r n.ensures k c.loop-r.invariant.1 c.load-2.ensures
    c.loop-r.invariant.2
    ∙ ap (expand_of c.args.family c.args.block.now c.args.c) (salt ∙ append-nil _)

pub loop-r-init : goal.loop-r-init
unfolding times
loop-r-init g c =
    let one : block_words c.args.family * (0 + 1) ≡ block_words c.args.family = omega arith in
    (search rules, c.load-2.auto.w ∙ c.requires.0, rw one)
