-- The inner digest behind the key's block xored with opad, hashed.
-- what the type tells
use mathlib.Core.Path.{◌≡◌}
use native.Mathlib.Omega.{arith}
use lib.ListN.{length, length-take}
use Rattle.family.proofs.Sizes.{block_max}
use Rattle.finishing.proofs.Answers.{m_max}
use Rattle.keyed.proofs.Tags.{keyed_allowed, tag_made}
use Rattle.keyed.proofs.hashing.tag_of.Goals as goal

pub invariant_of-joined : goal.invariant_of-joined
invariant_of-joined c = record { known = keyed_allowed c.args.keyed c.requires }

pub joined-requires : goal.joined-requires
joined-requires c =
    let k = c.args.keyed in
    let ok = keyed_allowed k c.requires in
    rw (c.part.ensures, c.part-2.ensures, length-take, length-take) (omega (arith, c.block_bytes-size.ensures, block_max k.inner.family, c.digest_bytes.ensures, m_max k.inner.m ok))

pub returns : goal.returns
returns c =
    let sixteen : length c.args.keyed.inner.chain ≡ 16 = c.well_formed.1.0.1.1.0.1.1.1.1.1.0.1.0.1 in
    tag_made c.args.keyed c.requires sixteen c.block_bytes-size.ensures c.digest_bytes.ensures c.none.ensures c.finish.ensures.buffer c.xored-block.ensures
    c.part.ensures c.part-2.ensures c.joined.ensures
