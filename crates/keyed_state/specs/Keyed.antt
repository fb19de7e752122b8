-- The keyed state (document 02, Eight): its digest lengths, and when it is consistent.
use Rattle.std.specs.Prelude.{Bool, ◌&&◌, ℕ, ◌%◌, eqb, leb, drop, replicate}
use Rattle.family.specs.Family.{block_bytes}
use Rattle.state.specs.Bytes.{all_zero}
use Rattle.state.specs.State.{allowed, consistent_of, zero_state}
use Rattle.keyed_state.specs.declared.Keyed.{Keyed}

-- "m a multiple of 8"
unfoldable pub tag_length : ℕ → Bool
tag_length m = eqb (m % 8) 0 && allowed m

-- "It is consistent if that state is, has zero salt and such an m, and covers a block or more", and the padded key is zero past the block.
unfoldable pub keyed_consistent : Keyed → Bool
keyed_consistent k =
    let b = block_bytes k.inner.family in
    consistent_of k.inner && eqb (k.inner.m % 8) 0 && all_zero k.inner.salt && leb b k.inner.covered.0 && all_zero (drop b k.key)

-- the all-zero keyed state, whose inner state is not consistent
unfoldable pub zero_keyed : Keyed
zero_keyed = record { inner = zero_state; key = replicate 128 0 }
