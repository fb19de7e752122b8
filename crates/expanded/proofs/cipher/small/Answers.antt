use mathlib.Core.Path.{◌≡◌, refl}
use Prim.Native.Nat.{◌+◌, ◌-◌, ◌*◌, ◌/◌, ◌%◌}
use native.Mathlib.Omega.{arith}
use borrow.Author.Rules.{rules}
use borrow.Rule.Slice.PartMut.{put_mid}
use lib.Seq.{sets}
use Rattle.words.specs.Words.{times}
use Rattle.compress.specs.Cipher.{small_cipher}
use Rattle.compress.proofs.Fours.{four_part, part_put}
use Rattle.compress.proofs.Rounds.{halves_placed}
use Rattle.expanded.proofs.cipher.small.Goals as goal

pub loop-i-init : goal.loop-i-init
unfolding times
loop-i-init g c = (search rules, refl, refl)

pub loop-i-preserved : goal.loop-i-preserved
loop-i-preserved g c =
    let x = c.inner-x in
    let l = c.loop-i in
    let whole : 12 * (l.i / 12) ≡ l.i = omega arith in
    let to = l.i % 8 in
    let stored : put_mid to (to + 4 - to) l.h c.put.new.w ≡ sets l.h to x.result = part_put l.h x.result c.put.new.w to (search rules) (omega arith) c.put.ensures in (
      omega arith,
      omega arith,
      halves_placed _ _ l.h _ _ x.result l.i (omega arith) l.invariant.1 l.invariant.2 refl
          (rw (whole, x.ensures, c.quad-in-loop-i.ensures, four_part l.h to, c.quad.ensures, four_part l.h (4 - to))) stored,
    )

pub returns : goal.returns
unfolding small_cipher
returns g c =
    let l = c.loop-i in
    let e : l.i ≡ 144 = omega arith in
    rw e at l.invariant.2
