use mathlib.Core.Path.{sym, ◌∙◌}
use native.Mathlib.Omega.{arith}
use Rattle.compress.proofs.Runs.{run_none, run_turn}
use Rattle.expanded.proofs.run_by_tables.Goals as goal

pub loop-block-preserved : goal.loop-block-preserved
loop-block-preserved c =
    let a = c.args in
    let l = c.loop-block in
    let next = c.in-Some.ensures.steps in (
      next.0 ∙ l.invariant.0,
      l.invariant.1
          ∙ run_turn a.family a.salt.now l.c l.chain _ c.in-Some.block.now _ c.block_bytes-size.ensures next.1.0 (next.1.1 ∙ l.invariant.0) c.advance-c.ensures c.by_tables.ensures,
    )

pub returns : goal.returns
returns c =
    let a = c.args in
    let l = c.loop-block in
    sym (l.invariant.1 ∙ run_none a.family a.salt.now l.c l.block-iterator.rest.now l.chain (omega (arith, c.in-None.ensures.steps.1.0, l.invariant.0, c.block_bytes-size.ensures)))
