-- The keyed state that m, key and the bytes so far give, and the tag of a keyed state.
use Rattle.std.specs.Prelude.{List, [], ◌++◌, ℕ, take}
use Rattle.family.specs.Family.{block_bytes}
use Rattle.bits.specs.Bits.{no_bits}
use Rattle.state.specs.Bytes.{fill}
use Rattle.finishing.specs.Finish.{state_digest}
use Rattle.digest.specs.Running.{state_of}
use Rattle.keyed_state.specs.declared.Keyed.{Keyed}
use Rattle.keyed.specs.Hmac.{h_of, opad, ◌⊕◌, K0, inner_text}

-- "A keyed state is the inner running state and the padded key, zero past the block"
unfoldable pub keyed_of : ℕ → List ℕ → List ℕ → Keyed
keyed_of m K text = record { inner = state_of m [] (inner_text m K text); key = fill 128 (K0 m K) }

-- Steps 6 to 9 carried on from a keyed state: the inner digest is its inner state's, and K0 is its padded key's block.
unfoldable pub state_tag : Keyed → List ℕ
state_tag k =
    let b = block_bytes k.inner.family in
    h_of k.inner.m ((take b k.key ⊕ opad b) ++ state_digest k.inner no_bits)
