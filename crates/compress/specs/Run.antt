-- A run of blocks: what the digest does with the whole blocks of a message.
use Rattle.std.specs.Prelude.{List, ℕ, zero, suc, ◌+◌, ◌*◌, take, drop}
use Rattle.family.specs.declared.Family.{Family}
use Rattle.family.specs.Family.{block_bytes}
use Rattle.counter.specs.declared.Counter.{Counter}
use Rattle.counter.specs.Counter.{number_of, counter_of}
use Rattle.compress.specs.Compression.{compress_of}

-- The chain over the first n blocks of xs, of which the first has the counter c. The counter is bits so far including a block, so each further block has a
-- block's bits more.
unfoldable pub run_over : Family → List ℕ → ℕ → Counter → List ℕ → List ℕ → List ℕ
run_over f salt zero c xs chain = chain
run_over f salt (suc n) c xs chain =
    let b = block_bytes f in
    run_over f salt n (counter_of (number_of c + 8 * b)) (drop b xs) (compress_of f chain (take b xs) c salt)
