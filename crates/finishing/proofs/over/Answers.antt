-- By the tables the run goes with the block; byte by byte there is no run.
use mathlib.Core.Logic.{⊎_elim}
use mathlib.Core.Path.{sym, ◌∙◌}
use mathlib.Core.Bool.{false≢true}
use Prim.Native.Nat.{◌*◌, ◌<◌}
use native.Mathlib.Omega.{arith}
use lib.ListN.{length}
use Rattle.family.specs.Family.{block_bytes}
use Rattle.family.proofs.Sizes.{block_max}
use Rattle.counter.specs.Counter.{counter_of}
use Rattle.compress.proofs.Runs.{run_none}
use Rattle.finishing.proofs.over.Goals as goal

pub overflow_mul-block_bytes : goal.overflow_mul-block_bytes
overflow_mul-block_bytes c = omega (arith, c.block_bytes.ensures, block_max c.args.family)

pub returns-then-form : goal.returns-then-form
returns-then-form c = rw (c.of-first.ensures, c.block_bytes.ensures) at c.run_and_block_by_tables.ensures

pub returns : goal.returns
returns c =
    let a = c.args in
    let none : length a.run.now < block_bytes a.family = ⊎_elim (λ h. absurd (false≢true (sym c.if-form.false ∙ h))) (λ h. h) c.requires in
    rw (run_none a.family a.salt.now (counter_of (8 * block_bytes a.family)) a.run.now a.chain.now none) c.block.ensures
