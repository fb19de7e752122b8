-- The last four words are the round's subkey: that is the round under zero, xored with them.
use mir.Syntax.{w32}
use mir.Val.{Fits}
use lib.ListN.{length, get_or}
use borrow.Author.Rules.{rules}
use Rattle.tables.proofs.Rounds.{round_key}
use Rattle.compress.specs.Expansion.{group_of}
use Rattle.compress.proofs.Growing.{entered_group}
use Rattle.expanded.proofs.expansion.group.Goals as goal

pub returns : goal.returns
unfolding group_of
returns g c =
    let last = c.last in
    rw (
      c.entered.ensures,
      entered_group c.args.family c.args.c (length c.args.w.now) c.round-mixed.result c.requires.1,
      c.round-mixed.ensures,
      round_key _ last.result (λ j h. let e : Fits w32 (get_or last.result j 0) = search rules in e.fits),
      last.ensures,
      c.xored-salted.ensures,
      c.taps.ensures,
      c.block_words-n.ensures,
    )
