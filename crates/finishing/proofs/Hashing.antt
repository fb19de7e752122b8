-- A message from its starting chain: its whole blocks as a run, and its rest as a held block. Then the answers of hash.
use mathlib.Core.Path.{◌≡◌, ◌∙◌}
use mathlib.Core.Bool.{true, false}
use mathlib.Core.List.{List}
use Prim.Native.Nat.{ℕ, ◌+◌, ◌*◌, ◌/◌, ◌%◌, ◌≤◌, ◌<◌}
use native.Mathlib.Omega.{arith}
use native.Mathlib.Nat.{zero-add, div-mul-le_self}
use lib.ListN.{length, take, drop, replicate, length-append}
use lib.Seq.{sets, take_all}
use borrow.Author.Tests.{lt-ltb, le-ltb}
use Rattle.family.specs.declared.Family.{Family}
use Rattle.family.specs.Family.{family_of, block_bytes}
use Rattle.family.proofs.Sizes.{block_max}
use Rattle.answers.specs.declared.refusal.Refusal.{Refusal}
use Rattle.answers.specs.declared.refusal.Refusal.TheVariants.{DigestLength, MessageLimit, BufferShort, BitsUnfit}
use Rattle.std.specs.Prelude.{Ok, Err}
use Rattle.reports.specs.Report.{Report}
use Rattle.bits.specs.declared.LastBits.{LastBits}
use Rattle.bits.specs.Bits.{last_fits, digest_bytes, first_bits}
use Rattle.bits.specs.Message.{Message, message_of}
use Rattle.bits.proofs.Firsts.{first_length}
use Rattle.fields.specs.Fields.{bytes_of}
use Rattle.fields.proofs.Numbers.{bytes_length}
use Rattle.fields.proofs.Storing.{sets_front}
use Rattle.state.specs.Bytes.{fill, all_zero}
use Rattle.state.specs.State.{limit, allowed}
use Rattle.state.proofs.Filling.{fill_take, zero_fill}
use Rattle.finishing.specs.Blocks.{whole_blocks, blocks_of, chain_over}
use Rattle.finishing.specs.Finish.{ending, whole_run}
use Rattle.finishing.specs.Hash.{hash_answer, hash_of, hash_buffer}
use Rattle.finishing.proofs.Answers.{m_max}
use Rattle.finishing.proofs.Blocking.{whole_blocks_length, rest_length, rest_small, chain_over_append}
use Rattle.finishing.proofs.Endings.{ended_length}
use Rattle.finishing.proofs.Held.{put_filled}
use Rattle.finishing.proofs.Running.{run_chain}

module _ (f : Family) (xs : List ℕ) where
  abbrev b : ℕ
  b = block_bytes f

  abbrev n : ℕ
  n = length xs / b

  abbrev rest : List ℕ
  rest = drop (n * b) xs

  -- what rest_of ensures
  pub rest_held : {size : ℕ} → size ≡ b → {held : List ℕ} → held ≡ sets (replicate 128 0) 0 (take 128 (drop (length xs / size * size) xs)) → held ≡ fill 128 rest
  rest_held es e =
      let small : length rest ≤ 128 = omega (arith, rest_small f xs, block_max f) in
      put_filled 128 rest small (e ∙ rw (es, take_all 128 rest small))

  pub rest_zero : {held : List ℕ} → held ≡ fill 128 rest → all_zero (drop (length xs % b) held) ≡ true
  rest_zero e = rw e (zero_fill 128 rest (length xs % b) (omega (arith, rest_length b xs)))

  -- what close ensures, of all bytes as its run
  module _ (m : ℕ) (salt start : List ℕ) (last : LastBits) (room : length xs ≤ limit) {held : List ℕ} (eh : held ≡ fill 128 rest) where
    known : take (length xs % b) held ≡ rest
    known = rw eh (fill_take 128 rest (length xs % b) (rest_length b xs))

    run : whole_run f salt xs start ≡ chain_over f salt (whole_blocks n b 0 xs) start
    run = rw zero-add at (run_chain f salt n 0 xs start (omega (arith, div-mul-le_self (length xs) b)))

    pub chained_over : {chain : List ℕ} {k : ℕ} → (chain ≡ chain_over f salt (ending f m (length xs) (take (length xs % b) held) last) (whole_run f salt xs start)) × (k ≡ length (ending f m (length xs) (take (length xs % b) held) last))
        → (chain ≡ chain_over f salt (blocks_of f m (message_of xs last)) start) × (n + k ≡ length (blocks_of f m (message_of xs last)))
    unfolding blocks_of
    chained_over e = (e.0 ∙ rw (chain_over_append, run, known), rw (length-append, whole_blocks_length, e.1, known))

module _ (m : ℕ) (salt start xs : List ℕ) (last : LastBits) (out : List ℕ) where
  abbrev x : Message
  x = message_of xs last

  pub hash_refused : {r : Refusal} → hash_answer m x out ≡ Err r → ◌≡◌ {A = Report} (Err r) (hash_of m x out) × (out ≡ hash_buffer m salt start x out)
  unfolding hash_of hash_buffer
  hash_refused e = (rw e, rw e)

  pub hash_length : allowed m ≡ false → hash_answer m x out ≡ Err DigestLength
  unfolding hash_answer
  hash_length h = rw h

  module _ (ok : allowed m ≡ true) where
    pub hash_over : limit < length xs → hash_answer m x out ≡ Err MessageLimit
    unfolding hash_answer
    hash_over h = rw (ok, lt-ltb limit (length xs) h)

    module _ (room : length xs ≤ limit) where
      pub hash_unfit : last_fits last ≡ false → hash_answer m x out ≡ Err BitsUnfit
      unfolding hash_answer
      hash_unfit h = rw (ok, le-ltb limit (length xs) room, h)

      module _ (fits : last_fits last ≡ true) {size : ℕ} (es : size ≡ digest_bytes m) where
        pub hash_short : length out < size → hash_answer m x out ≡ Err BufferShort
        unfolding hash_answer
        hash_short h = rw (ok, le-ltb limit (length xs) room, fits, ← es, lt-ltb (length out) size h)

        hash_in : size ≤ length out → hash_answer m x out ≡ Ok tt
        unfolding hash_answer
        hash_in h = rw (ok, le-ltb limit (length xs) room, fits, ← es, le-ltb (length out) size h)

        -- what chained and padding::put_digest ensure
        pub hashed : size ≤ length out → {chain after : List ℕ} {k : ℕ}
            → (chain ≡ chain_over (family_of m) salt (blocks_of (family_of m) m x) start) × (k ≡ length (blocks_of (family_of m) m x))
            → after ≡ sets out 0 (first_bits m (bytes_of chain))
            → ◌≡◌ {A = Report} (Ok (record { covered = record { 0 = length xs }; bits = last.count; blocks = k })) (hash_of m x out) × (after ≡ hash_buffer m salt start x out)
        unfolding hash_of hash_buffer
        hashed h e a =
            let whole = chain_over (family_of m) salt (blocks_of (family_of m) m x) start in
            let l : length (first_bits m (bytes_of whole)) ≡ digest_bytes m = first_length m (bytes_of whole) (omega (arith, m_max m ok, bytes_length whole, ended_length (family_of m) salt m x start)) in
            (rw (hash_in h, e.1), rw (hash_in h) (a ∙ rw e.0 (sets_front out (first_bits m (bytes_of whole)) (omega (arith, l)))))
