-- All bytes are the run, and those behind its whole blocks are held.
use mathlib.Core.Logic.{inl}
use mathlib.Core.Path.{◌≡◌, refl}
use Prim.Native.Nat.{◌*◌, ◌/◌, ◌≤◌}
use native.Mathlib.Omega.{arith}
use native.Mathlib.Nat.{div-mul-le_self, div-le_self}
use lib.ListN.{length, drop}
use Rattle.family.specs.Family.{block_bytes}
use Rattle.family.proofs.Sizes.{block_pos}
use Rattle.state.specs.Bytes.{fill}
use Rattle.finishing.proofs.Endings.{last_max}
use Rattle.finishing.proofs.Hashing.{rest_held, rest_zero, chained_over}
use Rattle.finishing.proofs.chained.Goals as goal

pub nonzero_div-whole : goal.nonzero_div-whole
nonzero_div-whole c = omega (arith, c.block_bytes-size.ensures, block_pos c.of-family.result)

pub overflow_mul-whole : goal.overflow_mul-whole
overflow_mul-whole c = omega (arith, div-mul-le_self (length c.args.bytes.now) c.block_bytes-size.result, c.requires)

pub close-count-requires : goal.close-count-requires
close-count-requires c =
    let filled : c.rest_of-held.result ≡ fill 128 (drop (length c.args.bytes.now / block_bytes c.of-family.result * block_bytes c.of-family.result) c.args.bytes.now) = rest_held c.of-family.result c.args.bytes.now c.block_bytes-size.ensures c.rest_of-held.ensures in
    (c.requires, rest_zero c.of-family.result c.args.bytes.now filled, inl refl)

pub overflow_add-result : goal.overflow_add-result
overflow_add-result c =
    let few : c.close-count.result ≤ 2 = rw c.close-count.ensures.1 (last_max _ _ _ _) in
    omega (arith, few, div-le_self (length c.args.bytes.now) c.block_bytes-size.result, c.requires)

pub returns : goal.returns
returns c =
    let filled : c.rest_of-held.result ≡ fill 128 (drop (length c.args.bytes.now / block_bytes c.of-family.result * block_bytes c.of-family.result) c.args.bytes.now) = rest_held c.of-family.result c.args.bytes.now c.block_bytes-size.ensures c.rest_of-held.ensures in
    let a = c.args in
    rw (← c.of-family.ensures, c.block_bytes-size.ensures)
    (chained_over c.of-family.result a.bytes.now a.m a.salt.now a.start.now a.last.bits c.requires filled c.close-count.ensures)
