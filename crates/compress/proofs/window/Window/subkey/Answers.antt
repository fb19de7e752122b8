use native.Mathlib.Omega.{arith}
use borrow.Author.Rules.{rules}
use Rattle.compress.specs.Window.{made_of}
use Rattle.compress.proofs.Fours.{part_put}
use Rattle.compress.proofs.Sixteen.{holds_next}
use Rattle.compress.proofs.window.Window.subkey.Goals as goal

pub invariant_of-self : goal.invariant_of-self
invariant_of-self c =
    let made = c.made-key in
    let w = c.args.self.now in
    let to = c.place-to in
    let next =
    holds_next _ w.words (made_of w.from) made.result w.next _ w.holds (search rules) w.fours made.ensures to.ensures
    (part_put w.words made.result c.put.new.w to.result (search rules) (omega (arith, to.ensures, w.fours)) c.put.ensures) in
    record { fours = omega (arith, w.fours); holds = next.1 }
