use mir.Syntax.{w32}
use mir.Val.{Fits}
use lib.ListN.{get_or}
use borrow.Author.Rules.{rules}
use Rattle.tables.proofs.Rounds.{round_tables_lem}
use Rattle.expanded.proofs.rounds.ByTablesRounds.round.Goals as goal

pub returns : goal.returns
returns c =
    rw (c.round.ensures, c.lent.ensures)
    (round_tables_lem c.args.x c.args.key (λ j h. let e : Fits w32 (get_or c.args.key j 0) = search rules in e.fits))
