use mathlib.Core.Path.{ap, ◌≡◌, refl, ◌∙◌}
use mathlib.Core.List.{List, ◌++◌}
use Prim.Native.Nat.{ℕ, ◌+◌, ◌-◌, ◌*◌, ◌/◌, ◌%◌}
use borrow.Rule.Slice.PartMut.{put_mid}
use lib.Seq.{sets, length-sets}
use Rattle.compress.proofs.Fours.{drop_stores, four_part, part_put}
use Rattle.compress.proofs.Rounds.{halves_placed, halves_whole}
use borrow.Author.Rules.{rules}
use native.Mathlib.Omega.{arith}
use lib.ListN.{length, drop}
use Rattle.compress.specs.declared.cipher.Halves.{Halves}
use Rattle.words.specs.Words.{times}
use Rattle.compress.specs.Cipher.{small_cipher}
use Rattle.compress.specs.Window.{made_of}
use Rattle.compress.proofs.cipher.small.Goals as goal

pub loop-i-init : goal.loop-i-init
unfolding times
loop-i-init c = (search rules, refl, c.new-w.ensures.0, ap made_of c.new-w.ensures.1, (λ p. absurd (omega arith)), refl, refl)

pub loop-i-preserved : goal.loop-i-preserved
loop-i-preserved c =
    let x = c.inner_small-x in
    let l = c.loop-i in
    let i = l.i in
    let full : length l.h ≡ 16 = omega arith in
    let four : length c.xored-crossed.result ≡ 4 = search rules in
    let whole : 12 * (i / 12) ≡ i = omega arith in
    let stored : put_mid (i % 8) (i % 8 + 4 - i % 8) l.h c.put.new.w ≡ sets l.h (i % 8) c.xored-crossed.result =
    part_put l.h c.xored-crossed.result c.put.new.w (i % 8) four (omega arith) c.put.ensures in (
      omega arith,
      omega arith,
      x.ensures.1 ∙ ap (λ (j : ℕ). j + 12) l.invariant.2,
      ap made_of x.ensures.2 ∙ l.invariant.3,
      (λ p. ap (λ (u : List ℕ). length u) stored ∙ length-sets l.h (i % 8) c.xored-crossed.result ∙ full),
      ap (λ (u : List ℕ). drop 8 u) stored ∙ drop_stores c.xored-crossed.result l.h (i % 8) 8 (omega (arith, four)) ∙ l.invariant.5,
      halves_placed _ _ l.h _ x.result c.xored-crossed.result i full l.invariant.1 l.invariant.6 (rw whole (x.ensures.0 ∙ rw (l.invariant.2, l.invariant.3)))
          (rw (c.xored-crossed.ensures, c.quad.ensures, four_part l.h (i % 8))) stored,
    )

pub returns : goal.returns
unfolding small_cipher
returns c =
    let l = c.loop-i in
    let e : l.i ≡ 144 = omega arith in
    halves_whole l.h (l.invariant.4 (omega (arith, e))) ∙ ap (λ (s : Halves). s.left ++ (s.right ++ drop 8 l.h)) (rw e at l.invariant.6) ∙ rw l.invariant.5
