use mathlib.Core.Path.{◌≡◌, refl, ◌∙◌}
use mathlib.Core.List.{◌++◌}
use Prim.Native.Nat.{◌+◌, ◌-◌, ◌*◌, ◌%◌, ◌≤◌}
use native.Mathlib.Nat.{add-zero}
use native.Mathlib.Omega.{arith}
use lib.ListN.{length, take}
use lib.Seq.{length-sets}
use borrow.Author.Rules.{rules}
use borrow.Rule.Slice.PartMut.{put_mid}
use Rattle.family.specs.Family.{block_words}
use Rattle.words.specs.Words.{times}
use Rattle.compress.specs.Expansion.{places, nonlinear_run}
use Rattle.compress.proofs.Fours.{four_part, part_put}
use Rattle.compress.proofs.Growing.{put_four, nonlinear_step}
use Rattle.expanded.proofs.expansion.nonlinear.Goals as goal

pub loop-k-init : goal.loop-k-init
unfolding nonlinear_run times
loop-k-init g c = (search rules, refl, rw add-zero)

pub loop-k-preserved : goal.loop-k-preserved
loop-k-preserved g c =
    let a = c.args in
    let w = c.loop-k.w in
    let at = a.i + 4 * c.loop-k.k in
    let x = c.group-x.result in
    let room : at + 4 ≤ length w = omega arith in
    let stored = part_put w x c.put.new.w at (search rules) room c.put.ensures in
    let put : take (at + 4) (put_mid at (at + 4 - at) w c.put.new.w) ≡ take at w ++ x = rw stored (put_four w x at (search rules) room) in
    let whole : length (put_mid at (at + 4 - at) w c.put.new.w) ≡ length w = rw stored (length-sets w at x) in (
      omega arith,
      whole ∙ c.loop-k.invariant.1,
      nonlinear_step (block_words a.family) c.salt_quads-quads.result (places a.family a.c) a.salt.now w (put_mid at (at + 4 - at) w c.put.new.w)
          (take a.i a.w.now) a.i c.loop-k.k c.loop-k.invariant.2
          (rw (← c.quad-salt4.ensures ∙ four_part a.salt.now (4 * (c.loop-k.k % c.salt_quads-quads.result)), ← c.group-x.ensures) put),
    )
