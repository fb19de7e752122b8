-- The digest's size, and finish's answers: where a test decides, and where none does.
use mathlib.Core.Path.{◌≡◌, ◌∙◌}
use mathlib.Core.Bool.{true, false}
use mathlib.Core.List.{List}
use Prim.Native.Nat.{ℕ, ◌+◌, ◌*◌, ◌≤◌, ◌<◌}
use native.Mathlib.Omega.{arith}
use native.Mathlib.Nat.{le-mul_of_pos_right}
use lib.Dec.{leb, ltb}
use lib.ListN.{length}
use lib.Seq.{sets}
use borrow.Author.Tests.{leb-true, lt-ltb, le-ltb}
use Rattle.family.specs.declared.Family.{Family}
use Rattle.family.specs.declared.Family.TheVariants.{Large}
use Rattle.family.specs.Family.{digest_bits}
use Rattle.family.proofs.Sizes.{block_pos}
use Rattle.startup.specs.Startup.{start_of}
use Rattle.startup.proofs.Started.{start_length}
use Rattle.answers.specs.declared.refusal.Refusal.{Refusal}
use Rattle.answers.specs.declared.refusal.Refusal.TheVariants.{StateInconsistent, BufferShort, BitsUnfit}
use Rattle.std.specs.Prelude.{Ok, Err}
use Rattle.answers.proofs.Tests.{and_right}
use Rattle.bits.specs.declared.LastBits.{LastBits}
use Rattle.bits.specs.Bits.{last_fits, digest_bytes, first_bits}
use Rattle.bits.specs.Message.{Message, message_of}
use Rattle.bits.proofs.Firsts.{first_length}
use Rattle.fields.specs.Fields.{bytes_of}
use Rattle.fields.proofs.Numbers.{bytes_length}
use Rattle.fields.proofs.Storing.{sets_front}
use Rattle.state.specs.declared.State.{State}
use Rattle.state.specs.State.{limit, allowed, consistent_of}
use Rattle.state.proofs.Soundness.{Sound, sound}
use Rattle.finishing.specs.Finish.{Finished}
use Rattle.finishing.specs.Blocks.{blocks_of, chain_over, digest_of}
use Rattle.finishing.specs.Finish.{held_of, closing, state_digest, finish_answer, finish_of, finish_buffer}
use Rattle.finishing.proofs.Blocking.{chain_length}
use Rattle.finishing.proofs.Endings.{last_max}

-- the digest's size
pub m_max : (m : ℕ) → allowed m ≡ true → m ≤ 512
unfolding allowed
m_max m h = leb-true m (digest_bits Large) (and_right (ltb 0 m) (leb m (digest_bits Large)) h)

-- a digest has m/8 bytes rounded up
pub digest_length : (f : Family) (m : ℕ) (salt : List ℕ) (x : Message) → m ≤ 512 → length (digest_of f m salt x) ≡ digest_bytes m
unfolding digest_of
digest_length f m salt x h =
    let chain = chain_over f salt (blocks_of f m x) (start_of f m) in
    first_length m (bytes_of chain) (omega (arith, bytes_length chain, chain_length f salt (blocks_of f m x) (start_of f m) (start_length f m)))

pub state_digest_length : (s : State) (last : LastBits) → length s.chain ≡ 16 → s.m ≤ 512 → length (state_digest s last) ≡ digest_bytes s.m
unfolding state_digest
state_digest_length s last sixteen h =
    let chain = chain_over s.family s.salt (closing s last) s.chain in
    first_length s.m (bytes_of chain) (omega (arith, bytes_length chain, chain_length s.family s.salt (closing s last) s.chain sixteen))

-- finish compresses one block or two
pub closing_max : (s : State) (last : LastBits) → length (closing s last) ≤ 2
unfolding closing
closing_max s last = last_max s.family s.m (8 * s.covered.0 + last.count) (message_of (held_of s) last)

pub count_max : (s : State) → Sound s → s.compressed ≤ limit
count_max s ok = omega (arith, ok.within, ok.whole, le-mul_of_pos_right s.compressed (block_pos s.family))

-- finish
module _ (s : State) (last : LastBits) (out : List ℕ) where
  pub finish_not : consistent_of s ≡ false → finish_answer s last out ≡ Err StateInconsistent
  unfolding finish_answer
  finish_not h = rw h

  pub finish_refused : {r : Refusal} → finish_answer s last out ≡ Err r
      → ◌≡◌ {A = Finished} (record { answer = Err r; state = s }) (finish_of s last out) × (out ≡ finish_buffer s last out)
  unfolding finish_of finish_buffer
  finish_refused e = (rw e, rw e)

  module _ (ok : consistent_of s ≡ true) where
    pub finish_unfit : last_fits last ≡ false → finish_answer s last out ≡ Err BitsUnfit
    unfolding finish_answer
    finish_unfit h = rw (ok, h)

    module _ (fits : last_fits last ≡ true) {size : ℕ} (es : size ≡ digest_bytes s.m) where
      pub finish_short : length out < size → finish_answer s last out ≡ Err BufferShort
      unfolding finish_answer
      finish_short h = rw (ok, fits, ← es, lt-ltb (length out) size h)

      finish_in : size ≤ length out → finish_answer s last out ≡ Ok tt
      unfolding finish_answer
      finish_in h = rw (ok, fits, ← es, le-ltb (length out) size h)

      pub size_max : size ≤ 64
      size_max = omega (arith, m_max s.m (sound s ok).allowed)

      -- what close and padding::put_digest ensure
      pub finished : size ≤ length out → length s.chain ≡ 16 → {chain after : List ℕ} {n : ℕ}
          → (chain ≡ chain_over s.family s.salt (closing s last) s.chain) × (n ≡ length (closing s last))
          → after ≡ sets out 0 (first_bits s.m (bytes_of chain))
          → ◌≡◌ {A = Finished} (record { answer = Ok (record { covered = s.covered; bits = last.count; blocks = s.compressed + n }); state = s }) (finish_of s last out)
          × (after ≡ finish_buffer s last out)
      unfolding finish_of finish_buffer state_digest
      finished h sixteen c a =
          (rw (finish_in h, c.1), rw (finish_in h) (a ∙ rw c.0 (sets_front out (state_digest s last) (omega (arith, state_digest_length s last sixteen (m_max s.m (sound s ok).allowed))))))
