-- The run of all the bytes stays what is left of it, from the chain and the counter so far.
use mathlib.Core.Path.{◌≡◌}
use Prim.Native.Nat.{◌/◌}
use lib.ListN.{length}
use Rattle.family.specs.Family.{block_bytes}
use Rattle.compress.specs.Run.{run_over}
use Rattle.expanded.proofs.run_by_tables.Given as goal

abbrev pub invariant-loop-block : goal.invariant-loop-block
invariant-loop-block l =
    let rest = l.block-iterator.rest.now in
    (l.block-iterator.size ≡ l.size)
    × (run_over l.family l.salt (length l.bytes / block_bytes l.family) l.initial.c l.bytes l.initial.chain ≡ run_over l.family l.salt (length rest / block_bytes l.family) l.c rest l.chain)
