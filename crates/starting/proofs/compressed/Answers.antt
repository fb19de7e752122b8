use mathlib.Core.Path.{◌≡◌}
use Prim.Native.Nat.{◌/◌, ◌%◌}
use native.Mathlib.Omega.{arith}
use Rattle.startup.specs.Startup.{start_of}
use Rattle.starting.proofs.compressed.Goals as goal

pub returns : goal.returns
unfolding start_of
returns c =
    let high : c.args.m / 256 % 256 ≡ c.args.m / 256 = omega (arith, c.ranges.m.fits) in
    rw (c.master_value-chain.ensures, c.copy_from_slice.ensures.after, c.to_le_bytes.ensures, high) at c.start.ensures
