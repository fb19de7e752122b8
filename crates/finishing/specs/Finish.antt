-- Finish, as a total function of its inputs: its tests in the documents' order, its result, and what its lent buffer holds afterwards.
use Rattle.std.specs.Prelude.{not, List, [], ◌∷◌, ℕ, ◌+◌, ◌*◌, ◌/◌, ◌%◌, ltb, length, take}
use Rattle.family.specs.declared.Family.{Family}
use Rattle.family.specs.Family.{block_bytes}
use Rattle.counter.specs.Counter.{counter_of}
use Rattle.compress.specs.Run.{run_over}
use Rattle.answers.specs.declared.refusal.Refusal.TheVariants.{StateInconsistent, BufferShort, BitsUnfit}
use Rattle.answers.specs.Refusal.{Answer}
use Rattle.answers.specs.Refusal.{judged}
use Rattle.answers.specs.Written.{written}
use Rattle.reports.specs.declared.Coverage.{Coverage}
use Rattle.answers.specs.declared.handed.Handed.{Handed}
use Rattle.reports.specs.Report.{reported}
use Rattle.bits.specs.declared.LastBits.{LastBits}
use Rattle.bits.specs.Bits.{last_fits, digest_bytes, first_bits}
use Rattle.bits.specs.Message.{message_of}
use Rattle.fields.specs.Fields.{bytes_of}
use Rattle.state.specs.declared.State.{State}
use Rattle.state.specs.State.{consistent_of}
use Rattle.finishing.specs.Blocks.{last_blocks, chain_over}

-- the bytes of a state that are in no whole block yet
unfoldable pub held_of : State → List ℕ
held_of s = take (s.covered.0 % block_bytes s.family) s.held

-- the last blocks of a message of n whole bytes, of which rest are in no whole block
abbrev pub ending : Family → ℕ → ℕ → List ℕ → LastBits → List (ℕ × List ℕ)
ending f m n rest last = last_blocks f m (8 * n + last.count) (message_of rest last)

-- the chain over the whole blocks of a message's bytes
abbrev pub whole_run : Family → List ℕ → List ℕ → List ℕ → List ℕ
whole_run f salt xs chain = run_over f salt (length xs / block_bytes f) (counter_of (8 * block_bytes f)) xs chain

-- what finishing a state with last bits compresses, and its digest
unfoldable pub closing : State → LastBits → List (ℕ × List ℕ)
closing s last = ending s.family s.m s.covered.0 (held_of s) last

unfoldable pub state_digest : State → LastBits → List ℕ
state_digest s last = first_bits s.m (bytes_of (chain_over s.family s.salt (closing s last) s.chain))

-- what a digest covers or a refusal, and the state handed back
abbrev pub Finished : Type 0
Finished = Handed Coverage State

-- finish: 4, 11, 5. It hands back the state that it was given.
unfoldable pub finish_answer : State → LastBits → List ℕ → Answer
finish_answer s last out =
    judged (
    (not (consistent_of s), StateInconsistent) ∷ (not (last_fits last), BitsUnfit) ∷ (ltb (length out) (digest_bytes s.m), BufferShort) ∷ []
    )

unfoldable pub finish_of : State → LastBits → List ℕ → Finished
finish_of s last out = record {
  answer = reported (finish_answer s last out) s.covered.0 last.count (s.compressed + length (closing s last));
  state = s;
}

unfoldable pub finish_buffer : State → LastBits → List ℕ → List ℕ
finish_buffer s last out = written (finish_answer s last out) (state_digest s last) out
