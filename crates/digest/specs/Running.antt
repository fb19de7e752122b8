-- The running digest (document 01, "The running state"): the state that bytes lead to.
use Rattle.std.specs.Prelude.{List, ◌++◌, ℕ, ◌+◌, ◌*◌, ◌/◌, length, drop}
use Rattle.family.specs.Family.{family_of, block_bytes}
use Rattle.startup.specs.Startup.{start_of}
use Rattle.state.specs.declared.State.{State}
use Rattle.state.specs.Bytes.{fill}
use Rattle.finishing.specs.Blocks.{whole_blocks, chain_over}
use Rattle.finishing.specs.Finish.{held_of}

-- The state that digest length, salt and the bytes so far give: an empty salt stands for the all-zero salt.
unfoldable pub state_of : ℕ → List ℕ → List ℕ → State
state_of m salt xs =
    let f = family_of m in
    let n = length xs / block_bytes f in
    record {
      family = f;
      m = m;
      salt = fill 64 salt;
      chain = chain_over f (fill 64 salt) (whole_blocks n (block_bytes f) 0 xs) (start_of f m);
      covered = record { 0 = length xs };
      compressed = n;
      held = fill 128 (drop (n * block_bytes f) xs);
    }

-- The same rules carried on from a state's chain and held bytes.
unfoldable pub absorbed : State → List ℕ → State
absorbed s xs =
    let f = s.family in
    let p = held_of s ++ xs in
    let n = length p / block_bytes f in
    record {
      family = f;
      m = s.m;
      salt = s.salt;
      chain = chain_over f s.salt (whole_blocks n (block_bytes f) (s.compressed * block_bytes f) p) s.chain;
      covered = record { 0 = s.covered.0 + length xs };
      compressed = s.compressed + n;
      held = fill 128 (drop (n * block_bytes f) p);
    }
