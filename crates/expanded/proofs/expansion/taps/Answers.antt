use mathlib.Core.Path.{◌≡◌}
use native.Mathlib.Omega.{arith}
use lib.ListN.{length, take}
use lib.Seq.{take_all}
use Rattle.compress.proofs.Growing.{taps_is}
use Rattle.expanded.proofs.expansion.taps.Goals as goal

pub returns : goal.returns
returns c =
    let w = c.args.w.now in
    let whole : take (length w) w ≡ w = take_all _ _ (omega arith) in
    rw whole at (taps_is w (length w) (omega arith) c.args.n (omega arith) (omega arith))
