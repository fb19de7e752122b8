-- What the calls of the digest leave, one behind the other, under the empty salt: the state of what was added, and its digest.
use mathlib.Core.Path.{◌≡◌, refl, ap, ◌∙◌}
use mathlib.Core.Bool.{true}
use mathlib.Core.List.{List, [], ◌++◌}
use Prim.Native.Nat.{ℕ, ◌+◌, ◌≤◌}
use native.Mathlib.Omega.{arith}
use lib.ListN.{length, replicate}
use borrow.Author.Tests.{le-ltb}
use Rattle.family.specs.Family.{family_of}
use Rattle.std.specs.Prelude.{Ok}
use Rattle.bits.specs.declared.LastBits.{LastBits}
use Rattle.bits.specs.Bits.{no_bits, last_fits, digest_bytes}
use Rattle.state.specs.declared.State.{State}
use Rattle.state.specs.Bytes.{fill}
use Rattle.state.specs.State.{limit, allowed, consistent_of}
use Rattle.state.proofs.Soundness.{sound}
use Rattle.finishing.specs.Finish.{state_digest, finish_answer, finish_buffer}
use Rattle.finishing.proofs.Answers.{m_max}
use Rattle.digest.specs.Calls.{Step}
use Rattle.digest.specs.Running.{state_of}
use Rattle.digest.specs.Calls.{salt_fits, begin_answer, begin_of, add_of}
use Rattle.digest.proofs.Answers.{add_in}
use Rattle.digest.proofs.Cuts.{state_consistent, state_absorbed, state_digest_lem}
use Rattle.digest.proofs.Shot.{begin_state}
use Rattle.keyed.specs.Hmac.{h_of}
use Rattle.keyed.proofs.Filled.{front_filled}

-- finishing into 64 zeros
pub finish_filled : (s : State) → consistent_of s ≡ true → {last : LastBits} → last ≡ no_bits → finish_buffer s last (replicate 64 0) ≡ fill 64 (state_digest s no_bits)
unfolding finish_buffer finish_answer last_fits no_bits
finish_filled s ok e =
    rw (e, ok, le-ltb 64 (digest_bytes s.m) (omega (arith, m_max s.m (sound s ok).allowed))) (front_filled 64 (state_digest s no_bits))

module _ (m : ℕ) (ok : allowed m ≡ true) where
  fits : salt_fits (family_of m) [] ≡ true
  unfolding salt_fits
  fits = refl

  begins : begin_answer m [] ≡ Ok tt
  unfolding begin_answer
  begins = rw (ok, fits)

  pub begun : {r : Step} → r ≡ begin_of m [] → r.state ≡ state_of m [] []
  begun e = rw e (begin_state m [] begins)

  module _ (xs : List ℕ) where
    pub consistent : length xs ≤ limit → consistent_of (state_of m [] xs) ≡ true
    consistent room = state_consistent m [] xs ok fits room

    pub added_on : (ys : List ℕ) → length xs + length ys ≤ limit → {s : State} → s ≡ state_of m [] xs → {r : Step} → r ≡ add_of s ys → r.state ≡ state_of m [] (xs ++ ys)
    unfolding add_of state_of
    added_on ys room es e = rw (e, es, add_in (state_of m [] xs) ys (consistent (omega arith)) room) (state_absorbed m [] xs ys)

    pub hashed : length xs ≤ limit → {s : State} → s ≡ state_of m [] xs → {last : LastBits} → last ≡ no_bits → {after : List ℕ} → after ≡ finish_buffer s last (replicate 64 0)
        → after ≡ fill 64 (h_of m xs)
    unfolding h_of
    hashed room es el e = e ∙ rw es (finish_filled (state_of m [] xs) (consistent room) el ∙ ap (fill 64) (state_digest_lem m [] xs no_bits))
