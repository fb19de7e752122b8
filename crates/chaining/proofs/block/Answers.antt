use mathlib.Core.Path.{◌∙◌}
use Prim.Native.Nat.{◌≤◌}
use native.Mathlib.Omega.{arith}
use lib.ListN.{length}
use Rattle.family.proofs.Sizes.{block_max}
use Rattle.compress.proofs.Rounds.{fed_window}
use Rattle.compress.proofs.Runs.{run_block}
use Rattle.chaining.proofs.block.Goals as goal

pub returns-then-form : goal.returns-then-form
returns-then-form c =
    let size = c.block_bytes-size in
    let a = c.args in
    let fits : size.result ≤ length a.block.now = omega (arith, size.ensures, block_max a.family) in
    c.run_by_tables.ensures ∙ rw c.part.ensures (run_block a.family a.salt.now a.counter a.block.now a.chain.now size.ensures fits)

pub returns-in-Small : goal.returns-in-Small
returns-in-Small c =
    let a = c.args in
    rw c.in-Small.is (fed_window a.chain.now a.block.now a.counter a.salt.now c.small.ensures c.feed.ensures)
