-- Each call of the digest takes the state of what was added before to that of one part more.
use mathlib.Core.List.{[], ◌++◌}
use native.Mathlib.Omega.{arith}
use lib.ListN.{length-append}
use Rattle.keyed.proofs.Digests.{begun, added_on, hashed}
use Rattle.keyed.proofs.hashing.Hash.joined.Goals as goal

pub returns : goal.returns
returns c =
    let m = c.args.self.m in
    let ok = c.args.self.known in
    let xs = c.args.first.now in
    let ys = c.args.second.now in
    let one = added_on m ok [] xs (omega (arith, c.requires)) (begun m ok c.begin-begun.ensures) c.add-one.ensures in
    let two = added_on m ok xs ys c.requires one c.add-two.ensures in
    hashed m ok (xs ++ ys) (rw length-append c.requires) two c.none.ensures c.finish.ensures.buffer
