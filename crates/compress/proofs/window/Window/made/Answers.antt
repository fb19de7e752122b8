use mathlib.Core.Path.{◌∙◌}
use native.Mathlib.Omega.{arith}
use Rattle.compress.proofs.Windowed.{windowed_block, windowed_nonlinear, windowed_linear}
use Rattle.compress.proofs.window.Window.made.Goals as goal

pub returns-then-i-lt-BLOCK_WORDS : goal.returns-then-i-lt-BLOCK_WORDS
returns-then-i-lt-BLOCK_WORDS c =
    let w = c.args.self.now in
    c.quad_of.ensures ∙ windowed_block w.words w.from.block.now w.from.counter w.from.salt.now w.next w.fours c.requires w.holds c.if-i-lt-BLOCK_WORDS.true

pub returns-then-i-eq1 : goal.returns-then-i-eq1
returns-then-i-eq1 c =
    let w = c.args.self.now in
    c.nonlinear.ensures ∙ windowed_nonlinear w.words w.from.block.now w.from.counter w.from.salt.now w.next w.fours c.requires w.holds (omega arith) c.if-i-eq1.true

pub returns : goal.returns
returns c =
    let w = c.args.self.now in
    rw (c.linear.ensures, c.quad-2.ensures, c.quad.ensures)
    (windowed_linear w.words w.from.block.now w.from.counter w.from.salt.now w.next w.fours c.requires w.holds (omega arith) c.if-i-eq1.false)
