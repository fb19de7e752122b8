-- A run of whole blocks is the chain over their list.
use mathlib.Core.Path.{◌≡◌, refl}
use mathlib.Core.List.{List}
use Prim.Native.Nat.{ℕ, zero, suc, ◌+◌, ◌*◌, ◌^◌, ◌<◌}
use native.Mathlib.Omega.{arith}
use native.Mathlib.Nat.{lt_of_lt_of_le}
use lib.Dec.{lit≤}
use lib.ListN.{drop}
use Rattle.family.specs.declared.Family.{Family}
use Rattle.family.specs.Family.{block_bytes}
use Rattle.counter.specs.Counter.{number_of, counter_of}
use Rattle.counter.proofs.Counting.{counter_number}
use Rattle.compress.specs.Run.{run_over}
use Rattle.finishing.specs.Blocks.{whole_blocks, chain_over}

-- the counter of a block of b bytes more
pub next_counter : (done b : ℕ) → 8 * done < 2 ^ 64 → counter_of (number_of (counter_of (8 * done)) + 8 * b) ≡ counter_of (8 * (done + b))
next_counter done b h =
    let e : 8 * done + 8 * b ≡ 8 * (done + b) = omega arith in
    rw (counter_number (8 * done) (lt_of_lt_of_le h (lit≤ {m = 2 ^ 64} {n = 2 ^ 128} tt)), e)

pub run_chain : (f : Family) (salt : List ℕ) (n done : ℕ) (xs chain : List ℕ) → 8 * (done + n * block_bytes f) < 2 ^ 64
    → run_over f salt n (counter_of (8 * (done + block_bytes f))) xs chain ≡ chain_over f salt (whole_blocks n (block_bytes f) done xs) chain
unfolding run_over whole_blocks chain_over
run_chain f salt zero done xs chain h = refl
run_chain f salt (suc n) done xs chain h =
    let b = block_bytes f in
    rw (next_counter (done + b) b (omega arith)) (run_chain f salt n (done + b) (drop b xs) _ (omega arith))
