use mathlib.Core.Path.{◌≡◌, refl, ap, ◌∙◌}
use Prim.Native.Nat.{ℕ, ◌+◌, ◌-◌, ◌%◌}
use native.Mathlib.Omega.{arith}
use borrow.Author.Rules.{rules}
use borrow.Rule.Slice.PartMut.{put_mid}
use lib.Seq.{sets}
use Rattle.words.specs.Words.{times}
use Rattle.compress.specs.Cipher.{large_cipher}
use Rattle.compress.proofs.Fours.{four_part, part_put}
use Rattle.expanded.specs.Places.{place_of}
use Rattle.expanded.proofs.Quarters.{Standing, standing_more}
use Rattle.expanded.proofs.cipher.large.Goals as goal

pub loop-i-init : goal.loop-i-init
unfolding times Standing
loop-i-init g c = (search rules, refl, refl)

pub loop-i-preserved : goal.loop-i-preserved
loop-i-preserved g c =
    let x = c.inner-x in
    let l = c.loop-i in
    let place = c.place-to.ensures in
    let to = c.place-to.result in
    let stored : put_mid to (to + 4 - to) l.h c.put.new.w ≡ sets l.h (place_of l.i) x.result =
    part_put l.h x.result c.put.new.w to (search rules) (omega (arith, place.1, place.2)) c.put.ensures ∙ ap (λ (j : ℕ). sets l.h j x.result) place.0 in (
      omega arith,
      omega arith,
      standing_more _ _ l.h _ _ x.result l.i (search rules) l.invariant.1 l.invariant.2 refl
          (rw (x.ensures, c.quad-in-loop-i.ensures, four_part l.h to, c.quad.ensures, four_part l.h ((to + 4) % 16), place.0)) stored,
    )

pub returns : goal.returns
unfolding large_cipher Standing
returns g c =
    let l = c.loop-i in
    let e : l.i ≡ 448 = omega arith in
    rw e at l.invariant.2
