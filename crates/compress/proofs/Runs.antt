-- A run of blocks: one of them, and the whole blocks of a list taken from its front.
use mathlib.Core.Path.{◌≡◌, ◌∙◌}
use mathlib.Core.List.{List, ◌++◌}
use Prim.Native.Nat.{ℕ, ◌+◌, ◌*◌, ◌/◌, ◌≤◌, ◌<◌}
use native.Mathlib.Omega.{arith}
use native.Mathlib.Nat.{add-div_left, div-eq_of_lt, div_self}
use native.Mathlib.Numerals.{add-one}
use lib.ListN.{length, take, drop, length-append, length-drop}
use lib.Seq.{length-take-le, take_at, drop_at}
use Rattle.family.specs.declared.Family.{Family}
use Rattle.family.specs.Family.{block_bytes}
use Rattle.family.proofs.Sizes.{block_pos}
use Rattle.counter.specs.declared.Counter.{Counter}
use Rattle.counter.specs.Counter.{number_of, counter_of}
use Rattle.compress.specs.Compression.{compress_of}
use Rattle.compress.specs.Run.{run_over}
use Rattle.compress.proofs.Compressed.{compress_block}

module _ (f : Family) (salt : List ℕ) (c : Counter) (xs chain : List ℕ) where
  abbrev b : ℕ
  b = block_bytes f

  pub run_one : run_over f salt 1 c xs chain ≡ compress_of f chain xs c salt
  unfolding run_over
  run_one = compress_block f chain xs c salt

  -- less than a block
  pub run_none : length xs < b → run_over f salt (length xs / b) c xs chain ≡ chain
  unfolding run_over
  run_none h = rw (div-eq_of_lt h)

  -- a block, and those behind it
  run_more : b ≤ length xs → run_over f salt (length xs / b) c xs chain ≡ run_over f salt (length (drop b xs) / b) (counter_of (number_of c + 8 * b)) (drop b xs) (compress_of f chain (take b xs) c salt)
  unfolding run_over
  run_more h =
      let e : length xs ≡ b + length (drop b xs) = simp length-drop (omega arith) in
      rw (e, add-div_left (length (drop b xs)) (block_pos f), add-one)

-- a turn of the loop: the next block comes off the front
pub run_turn : (f : Family) (salt : List ℕ) (c : Counter) (chain rest block more : List ℕ) {size : ℕ} → size ≡ block_bytes f → rest ≡ block ++ more → length block ≡ size
    → {next : Counter} {after : List ℕ} → next ≡ counter_of (number_of c + 8 * size) → after ≡ compress_of f chain block c salt
    → run_over f salt (length rest / block_bytes f) c rest chain ≡ run_over f salt (length more / block_bytes f) next more after
run_turn f salt c chain rest block more es e l en ea =
    let n : length block ≡ block_bytes f = l ∙ es in
    rw (e, en, ea, es)
    (run_more f salt c (block ++ more) chain (omega (arith, length-append block more)) ∙ rw (take_at block more (block_bytes f) n, drop_at block more (block_bytes f) n))

-- the run over the front of a block that holds as many bytes
pub run_block : (f : Family) (salt : List ℕ) (c : Counter) (block chain : List ℕ) {size : ℕ} → size ≡ block_bytes f → size ≤ length block
    → run_over f salt (length (take size block) / block_bytes f) c (take size block) chain ≡ compress_of f chain block c salt
run_block f salt c block chain {size} e h =
    let l : length (take (block_bytes f) block) ≡ block_bytes f = length-take-le (block_bytes f) block (omega arith) in
    rw (e, l, div_self (block_pos f), run_one f salt c (take (block_bytes f) block) chain, compress_block f chain block c salt)
