-- One block where the length fits behind the 1 bit, else two: each is compressed as the rule has it, behind the run.
use mathlib.Core.Path.{◌≡◌}
use mathlib.Core.List.{List}
use Prim.Native.Nat.{ℕ}
use native.Mathlib.Omega.{arith}
use native.Mathlib.Nat.{mod-lt}
use lib.ListN.{length}
use Rattle.family.specs.declared.Family.{Family}
use Rattle.reports.specs.declared.Length.{Length}
use Rattle.state.specs.declared.State.{State}
use Rattle.family.proofs.Sizes.{block_pos, block_max}
use Rattle.finishing.specs.Finish.{held_of, whole_run, closing}
use Rattle.finishing.proofs.Closing.{close_one, close_two}
use Rattle.finishing.proofs.close.Goals as goal

-- the state that the arguments are parts of, behind the run
abbrev parts : Family → ℕ → List ℕ → List ℕ → List ℕ → Length → List ℕ → State
parts f m salt run chain covered held = record { family = f; m = m; salt = salt; chain = whole_run f salt run chain; covered = covered; compressed = 0; held = held }

pub behind-rest_bits-requires : goal.behind-rest_bits-requires
behind-rest_bits-requires c =
    let a = c.args in
    omega (arith, c.held_bytes-rest.ensures, block_max a.family, mod-lt a.covered.0 (block_pos a.family))

pub put-block-requires : goal.put-block-requires
put-block-requires c =
    let a = c.args in
    omega (arith, c.held_bytes-rest.ensures, block_max a.family, mod-lt a.covered.0 (block_pos a.family))

pub returns-then-ends_in_one : goal.returns-then-ends_in_one
unfolding closing held_of
returns-then-ends_in_one c =
    let full : length c.args.held ≡ 128 = c.well_formed.1.1.1.1.1.1.0.1.0.1 in
    let a = c.args in
    close_one (parts a.family a.m a.salt.now a.run.now a.chain.now a.covered a.held) c.args.last.bits full c.requires.1 c.held_bytes-rest.ensures c.behind-bits.ensures c.behind-rest_bits.ensures
    c.put-block.ensures c.ends_in_one.ensures c.if-ends_in_one.true c.with_length-padded.ensures c.last_counter.ensures c.of-counter.ensures c.over.ensures

pub returns : goal.returns
unfolding closing held_of
returns c =
    let full : length c.args.held ≡ 128 = c.well_formed.1.1.1.1.1.1.0.1.0.1 in
    let a = c.args in
    close_two (parts a.family a.m a.salt.now a.run.now a.chain.now a.covered a.held) c.args.last.bits full c.requires.1 c.held_bytes-rest.ensures c.behind-bits.ensures c.behind-rest_bits.ensures
    c.put-block.ensures c.ends_in_one.ensures c.if-ends_in_one.false
    c.of.ensures c.over-2.ensures c.with_length-padded-2.ensures c.of-2.ensures c.block.ensures
