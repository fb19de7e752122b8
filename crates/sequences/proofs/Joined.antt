-- Sequences of calls from an accepted begin: only the accepted bytes, joined, matter, and finishing gives what one-shot gives for them.
use mathlib.Core.Path.{◌≡◌, refl}
use mathlib.Core.Bool.{true, false}
use mathlib.Core.List.{List, [], ◌∷◌, ◌++◌, append_assoc, append-nil}
use Prim.Native.Nat.{ℕ, ◌+◌, ◌≤◌}
use native.Mathlib.Omega.{arith}
use lib.Dec.{ltb}
use lib.ListN.{length, length-append}
use borrow.Author.Tests.{ltb-false, le-ltb}
use Rattle.answers.specs.declared.refusal.Refusal.{Refusal}
use Rattle.answers.specs.declared.refusal.Refusal.TheVariants.{MessageLimit, StateInconsistent}
use Rattle.answers.specs.Refusal.{Answer}
use Rattle.std.specs.Prelude.{Ok, Err}
use Rattle.bits.specs.declared.LastBits.{LastBits}
use Rattle.bits.specs.Message.{message_of}
use Rattle.state.specs.declared.State.{State}
use Rattle.answers.specs.Refusal.{if_accepted}
use Rattle.state.specs.State.{limit, allowed, consistent_of, zero_state}
use Rattle.digest.specs.Running.{state_of, absorbed}
use Rattle.digest.specs.Calls.{begin_answer, begin_of, add_answer, add_of, one_shot_of, one_shot_buffer}
use Rattle.finishing.specs.Finish.{finish_of, finish_buffer}
use Rattle.sequences.specs.Sequences.{Call, add, finish, after_call, after, taken, joined}
use Rattle.state.proofs.Soundness.{sound, consistent_of_lem}
use Rattle.digest.proofs.Cuts.{absorbed_append, still_sound, state_absorbed}
use Rattle.digest.proofs.Shot.{passed, begin_state, consistent, finish_one_shot}

module _ (m : ℕ) (salt : List ℕ) (h : begin_answer m salt ≡ Ok tt) where
  pub begin_consistent : consistent_of (begin_of m salt).state ≡ true
  begin_consistent = rw (begin_state m salt h) (consistent m salt h [] (omega arith))

pub begin_refused : (m : ℕ) (salt : List ℕ) (r : Refusal) → begin_answer m salt ≡ Err r → (begin_of m salt).state ≡ zero_state
unfolding begin_of
begin_refused m salt r h = rw h

pub zero_inconsistent : consistent_of zero_state ≡ false
unfolding consistent_of zero_state allowed
zero_inconsistent = refl

module _ (s : State) (xs : List ℕ) where
  pub add_accepted : add_answer s xs ≡ Ok tt → (consistent_of s ≡ true) × (s.covered.0 + length xs ≤ limit)
  unfolding add_answer
  add_accepted h =
      let p = passed (consistent_of s) (ltb limit (s.covered.0 + length xs)) StateInconsistent MessageLimit h in
      (p.0, ltb-false limit (s.covered.0 + length xs) p.1)

  pub add_refused : (r : Refusal) → add_answer s xs ≡ Err r → (add_of s xs).state ≡ s
  unfolding add_of
  add_refused r h = rw h

  add_in : consistent_of s ≡ true → s.covered.0 + length xs ≤ limit → add_of s xs ≡ record { answer = Ok tt; state = absorbed s xs }
  unfolding add_of add_answer
  add_in h room = rw (h, le-ltb limit (s.covered.0 + length xs) room)

  pub finish_hands_back : (last : LastBits) → (finish_of s last xs).state ≡ s
  unfolding finish_of
  finish_hands_back last = refl

module _ (s : State) (full : length s.held ≡ 128) where
  pub absorbed_consistent : consistent_of s ≡ true → (xs : List ℕ) → s.covered.0 + length xs ≤ limit → consistent_of (absorbed s xs) ≡ true
  absorbed_consistent h xs room = consistent_of_lem (absorbed s xs) (still_sound s (sound s h) full xs room)

  -- An accepted add hands back a consistent state.
  pub add_consistent : (xs : List ℕ) → add_answer s xs ≡ Ok tt → consistent_of (add_of s xs).state ≡ true
  unfolding add_of
  add_consistent xs h = rw h (absorbed_consistent (add_accepted s xs h).0 xs (add_accepted s xs h).1)

  -- Adding a and then c is adding a ++ c.
  pub add_add : consistent_of s ≡ true → (a c : List ℕ) → s.covered.0 + length (a ++ c) ≤ limit → add_of (add_of s a).state c ≡ add_of s (a ++ c)
  unfolding absorbed
  add_add h a c room =
      let l = length-append a c in
      let ra : s.covered.0 + length a ≤ limit = omega arith in
      rw (
        add_in s a h ra,
        add_in (absorbed s a) c (absorbed_consistent h a ra) (omega arith),
        add_in s (a ++ c) h room,
        absorbed_append s (sound s h).whole full a c,
      )

module _ (m : ℕ) (salt : List ℕ) where
  -- A call takes the state of the bytes so far to the state of those and what it brings in.
  call_joined : (xs : List ℕ) (call : Call) → after_call (state_of m salt xs) call ≡ state_of m salt (xs ++ taken (state_of m salt xs) call)
  unfolding after_call taken add_of finish_of
  call_joined xs (add ys) = by (add_answer (state_of m salt xs) ys)
    where
      by : (a : Answer) → if_accepted a (absorbed (state_of m salt xs) ys) (state_of m salt xs) ≡ state_of m salt (xs ++ if_accepted a ys [])
      by (Ok u) = state_absorbed m salt xs ys
      by (Err r) = rw append-nil
  call_joined xs (finish last out) = rw append-nil

  call_room : (xs : List ℕ) → length xs ≤ limit → (call : Call) → length (xs ++ taken (state_of m salt xs) call) ≤ limit
  unfolding taken state_of
  call_room xs room (add ys) = by (add_answer (state_of m salt xs) ys) refl
    where
      by : (a : Answer) → add_answer (state_of m salt xs) ys ≡ a → length (xs ++ if_accepted a ys []) ≤ limit
      by (Ok u) h = rw length-append (add_accepted (state_of m salt xs) ys h).1
      by (Err r) h = rw append-nil room
  call_room xs room (finish last out) = rw append-nil room

  pub after_joined : (xs : List ℕ) (calls : List Call) → after (state_of m salt xs) calls ≡ state_of m salt (xs ++ joined (state_of m salt xs) calls)
  unfolding after joined
  after_joined xs [] = rw append-nil
  after_joined xs (call ∷ calls) = rw (call_joined xs call, ← append_assoc) (after_joined (xs ++ taken (state_of m salt xs) call) calls)

  pub joined_room : (xs : List ℕ) → length xs ≤ limit → (calls : List Call) → length (xs ++ joined (state_of m salt xs) calls) ≤ limit
  unfolding joined
  joined_room xs room [] = rw append-nil room
  joined_room xs room (call ∷ calls) = rw (call_joined xs call, ← append_assoc) (joined_room (xs ++ taken (state_of m salt xs) call) (call_room xs room call) calls)

  module _ (calls : List Call) (h : begin_answer m salt ≡ Ok tt) where
    -- After any calls from an accepted begin, the state is that of the accepted bytes joined.
    pub calls_joined : after (begin_of m salt).state calls ≡ state_of m salt (joined (begin_of m salt).state calls)
    calls_joined = rw (begin_state m salt h) (after_joined [] calls)

    pub joined_length : length (joined (begin_of m salt).state calls) ≤ limit
    joined_length = rw (begin_state m salt h) (joined_room [] (omega arith) calls)

    -- Finishing it with any last bits reports and writes what one-shot does for those bytes and bits.
    pub calls_finish : (last : LastBits) (out : List ℕ)
        → ((finish_of (after (begin_of m salt).state calls) last out).answer ≡ one_shot_of m salt (message_of (joined (begin_of m salt).state calls) last) out)
        × (finish_buffer (after (begin_of m salt).state calls) last out ≡ one_shot_buffer m salt (message_of (joined (begin_of m salt).state calls) last) out)
    calls_finish last out = rw calls_joined (finish_one_shot m salt h (joined (begin_of m salt).state calls) joined_length last out)
