use mathlib.Core.Path.{◌≡◌, refl, sym, ◌∙◌}
use Prim.Native.Nat.{◌+◌, ◌*◌}
use mir.Syntax.{w32}
use mir.Val.{Fits}
use native.Mathlib.Omega.{arith}
use lib.ListN.{get_or}
use borrow.Author.Rules.{rules}
use Rattle.words.specs.Words.{times}
use Rattle.tables.proofs.Rounds.{round_last}
use Rattle.compress.specs.Cipher.{inner_of}
use Rattle.compress.proofs.Fours.{four_part}
use Rattle.compress.proofs.Growing.{times_more}
use Rattle.expanded.proofs.cipher.inner.Goals as goal

pub loop-j-init : goal.loop-j-init
unfolding times
loop-j-init g c = refl

pub loop-j-preserved : goal.loop-j-preserved
loop-j-preserved g c = rw (c.round-next.ensures, c.quad-in-loop-j.ensures ∙ four_part c.args.w.now (c.args.i + 4 + 4 * c.loop-j.j), c.loop-j.invariant) (sym (times_more c.loop-j.j _ c.xored-y.result))

-- What the result is xored onto is the last round's subkey.
pub returns : goal.returns
unfolding inner_of
returns g c =
    let e : c.loop-j.j ≡ g.row.KEYS = omega arith in
    rw (c.round.ensures, c.loop-j.invariant, e, c.xored-y.ensures, c.quad.ensures ∙ four_part c.args.w.now c.args.i)
    (round_last _ c.args.l (λ j h. let e : Fits w32 (get_or c.args.l j 0) = search rules in e.fits))
