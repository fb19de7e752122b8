use mathlib.Core.Path.{sym}
use Rattle.startup.specs.Printed.{iv160, iv224, iv256, iv384, iv512}
use Rattle.startup.proofs.Printed.{printed_160, printed_224, printed_256, printed_384, printed_512}
use Rattle.starting.proofs.starting_value.Goals as goal

pub returns-in-Small-eq160 : goal.returns-in-Small-eq160
unfolding iv160
returns-in-Small-eq160 c = rw (c.in-Small-eq160.is-0, c.in-Small-eq160.is-1) (sym printed_160)

pub returns-in-Small-eq224 : goal.returns-in-Small-eq224
unfolding iv224
returns-in-Small-eq224 c = rw (c.in-Small-eq224.is-0, c.in-Small-eq224.is-1) (sym printed_224)

pub returns-in-Small-eq256 : goal.returns-in-Small-eq256
unfolding iv256
returns-in-Small-eq256 c = rw (c.in-Small-eq256.is-0, c.in-Small-eq256.is-1) (sym printed_256)

pub returns-in-Large-eq384 : goal.returns-in-Large-eq384
unfolding iv384
returns-in-Large-eq384 c = rw (c.in-Large-eq384.is-0, c.in-Large-eq384.is-1) (sym printed_384)

pub returns-in-Large-eq512 : goal.returns-in-Large-eq512
unfolding iv512
returns-in-Large-eq512 c = rw (c.in-Large-eq512.is-0, c.in-Large-eq512.is-1) (sym printed_512)
