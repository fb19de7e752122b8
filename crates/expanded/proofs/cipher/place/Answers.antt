use mathlib.Core.Path.{refl}
use native.Mathlib.Omega.{arith}
use Rattle.expanded.specs.Places.{place_of}
use Rattle.expanded.proofs.cipher.place.Goals as goal

pub returns : goal.returns
unfolding place_of
returns c = (refl, omega arith, omega arith)
