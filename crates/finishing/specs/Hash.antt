-- One message from a chain to start from, under a salt of 64 bytes, as a total function of its inputs: what one-shot does behind its start-up.
use Rattle.std.specs.Prelude.{not, List, [], ◌∷◌, ℕ, ltb, length}
use Rattle.family.specs.Family.{family_of}
use Rattle.answers.specs.declared.refusal.Refusal.TheVariants.{DigestLength, MessageLimit, BufferShort, BitsUnfit}
use Rattle.answers.specs.Refusal.{Answer}
use Rattle.answers.specs.Refusal.{judged}
use Rattle.answers.specs.Written.{written}
use Rattle.reports.specs.Report.{Report}
use Rattle.reports.specs.Report.{reported}
use Rattle.bits.specs.Bits.{last_fits, digest_bytes, first_bits}
use Rattle.bits.specs.Message.{Message}
use Rattle.fields.specs.Fields.{bytes_of}
use Rattle.state.specs.State.{limit, allowed}
use Rattle.finishing.specs.Blocks.{blocks_of, chain_over}

-- one-shot's tests without that of the salt: 1, 3, 11, 5
unfoldable pub hash_answer : ℕ → Message → List ℕ → Answer
hash_answer m x out =
    judged (
    (not (allowed m), DigestLength) ∷ (ltb limit (length x.bytes), MessageLimit) ∷ (not (last_fits x.last), BitsUnfit)
    ∷ (ltb (length out) (digest_bytes m), BufferShort) ∷ []
    )

unfoldable pub hash_of : ℕ → Message → List ℕ → Report
hash_of m x out = reported (hash_answer m x out) (length x.bytes) x.last.count (length (blocks_of (family_of m) m x))

-- The digest is the first m bits of the last chain.
unfoldable pub hash_buffer : ℕ → List ℕ → List ℕ → Message → List ℕ → List ℕ
hash_buffer m salt start x out =
    let f = family_of m in
    written (hash_answer m x out) (first_bits m (bytes_of (chain_over f salt (blocks_of f m x) start))) out
