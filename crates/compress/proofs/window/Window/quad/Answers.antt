use Rattle.compress.proofs.Fours.{four_part}
use Rattle.compress.proofs.window.Window.quad.Goals as goal

pub returns : goal.returns
returns c = rw (c.quad.ensures, four_part c.args.self.now.words c.place-from.result, c.place-from.ensures)
