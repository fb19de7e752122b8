-- The list of (counter, block) that a message is compressed over (document 01, "Padding and counter", over bits by document 02, Five), and the digest. All
-- over the family's numbers.
use Rattle.std.specs.Prelude.{cond, List, [], ◌∷◌, ◌++◌, ℕ, zero, suc, ◌+◌, ◌*◌, ◌/◌, eqb, leb, length, take, drop}
use Rattle.family.specs.declared.Family.{Family}
use Rattle.family.specs.Family.{block_bytes, length_bytes, pad_limit, length_place}
use Rattle.counter.specs.Counter.{counter_of}
use Rattle.compress.specs.Compression.{compress_of}
use Rattle.bits.specs.Bits.{marked, first_bits}
use Rattle.bits.specs.Message.{Message, message_of, bit_length}
use Rattle.startup.specs.Startup.{start_of}
use Rattle.fields.specs.Fields.{le, bytes_of}
use Rattle.state.specs.Bytes.{fill}

-- The first n blocks of b bytes of xs, where done bytes went before xs. The counter is bits so far including this block.
unfoldable pub whole_blocks : ℕ → ℕ → ℕ → List ℕ → List (ℕ × List ℕ)
whole_blocks zero b done xs = []
whole_blocks (suc n) b done xs = (8 * (done + b), take b xs) ∷ whole_blocks n b (done + b) (drop b xs)

-- A last block: xs, zeros, the message length in bits (8 or 16 bytes), m in 2 bytes. Both numbers are little-endian.
unfoldable pub last_block : Family → ℕ → ℕ → List ℕ → List ℕ
last_block f m bits xs = fill (length_place f) xs ++ (le (length_bytes f) bits ++ le 2 m)

-- The end of a message of that many bits, of which rest is in no whole block: one 1 bit directly behind rest, then zeros. It is one block where rest's bits
-- are at most the family's limit, else two. The counter is without padding, and a block that holds padding only has counter 0 (a block with even one
-- message bit does not).
unfoldable pub last_blocks : Family → ℕ → ℕ → Message → List (ℕ × List ℕ)
last_blocks f m bits rest =
    let ended = rest.bytes ++ (marked rest.last ∷ []) in
    cond (leb (bit_length rest) (pad_limit f))
    ((cond (eqb (bit_length rest) 0) 0 bits, last_block f m bits ended) ∷ [])
    ((bits, fill (block_bytes f) ended) ∷ (0, last_block f m bits []) ∷ [])

-- every block of a message, with its counter
unfoldable pub blocks_of : Family → ℕ → Message → List (ℕ × List ℕ)
blocks_of f m x =
    let n = length x.bytes / block_bytes f in
    whole_blocks n (block_bytes f) 0 x.bytes ++ last_blocks f m (bit_length x) (message_of (drop (n * block_bytes f) x.bytes) x.last)

-- the chain taken through compression over a list
unfoldable pub chain_over : Family → List ℕ → List (ℕ × List ℕ) → List ℕ → List ℕ
chain_over f salt [] chain = chain
chain_over f salt (x ∷ xs) chain = chain_over f salt xs (compress_of f chain x.1 (counter_of x.0) salt)

-- The digest is the first m bits of the last chain, which is the starting value taken through compression over the list. Salt of 64 bytes.
unfoldable pub digest_of : Family → ℕ → List ℕ → Message → List ℕ
digest_of f m salt x = first_bits m (bytes_of (chain_over f salt (blocks_of f m x) (start_of f m)))
