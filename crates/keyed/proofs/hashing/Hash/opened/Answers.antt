-- The block that is added is the front of the key, xored with ipad.
use mathlib.Core.Path.{◌≡◌, ◌∙◌}
use mathlib.Core.List.{[]}
use Prim.Native.Nat.{◌+◌, ◌≤◌}
use native.Mathlib.Omega.{arith}
use lib.ListN.{length, take, length-take}
use Rattle.family.specs.Family.{family_of}
use Rattle.family.proofs.Sizes.{block_max}
use Rattle.state.specs.State.{limit}
use Rattle.keyed.specs.Hmac.{B, ipad, ◌⊕◌}
use Rattle.keyed.proofs.Digests.{begun, added_on}
use Rattle.keyed.proofs.Tags.{pad_front}
use Rattle.keyed.proofs.hashing.Hash.opened.Goals as goal

pub returns : goal.returns
returns c =
    let m = c.args.self.m in
    let e : c.part.result.now ≡ take (B m) c.args.key ⊕ ipad (B m) =
    c.part.ensures ∙ rw (c.xored-block.ensures, c.block_bytes-size.ensures, c.of.ensures) (pad_front (B m) 54 c.args.key (block_max (family_of m))) in
    let room : 0 + length c.part.result.now ≤ limit = rw (c.part.ensures, length-take) (omega (arith, c.block_bytes-size.ensures, block_max c.of.result)) in
    rw e at (added_on m c.args.self.known [] c.part.result.now room (begun m c.args.self.known c.begin-begun.ensures) c.add-step.ensures)
