-- Sequences of calls from an accepted begin: only the accepted bytes, joined, matter.
use mathlib.Core.Path.{◌≡◌, refl, ap, sym, ◌∙◌}
use mathlib.Core.Bool.{true}
use mathlib.Core.List.{List, [], ◌∷◌, ◌++◌, append_assoc, append-nil}
use Prim.Native.Nat.{ℕ, ◌+◌, ◌%◌, ◌≤◌}
use native.Mathlib.Omega.{arith}
use lib.ListN.{length, length-append}
use Rattle.family.specs.Family.{family_of}
use Rattle.family.proofs.Sizes.{block_max}
use Rattle.answers.specs.Refusal.{Answer}
use Rattle.std.specs.Prelude.{Ok, Err}
use Rattle.answers.specs.Refusal.{if_accepted}
use Rattle.state.specs.declared.State.{State}
use Rattle.state.specs.State.{limit, allowed}
use Rattle.digest.specs.Running.{state_of}
use Rattle.digest.specs.Calls.{add_answer, add_of}
use Rattle.sequences.specs.Sequences as digest
use Rattle.sequences.specs.Sequences.{after_call, after, taken, joined}
use Rattle.sequences.proofs.Joined.{after_joined}
use Rattle.keyed_state.specs.declared.Keyed.{Keyed}
use Rattle.keyed.specs.Calls.{Step}
use Rattle.keyed.specs.Hmac.{B, inner_text}
use Rattle.keyed.specs.Running.{keyed_of}
use Rattle.keyed.specs.Calls.{key_begin_answer, key_begin_of, key_add_answer, key_finish_of, key_check_of}
use Rattle.keyed.proofs.Answers.{add_answer_lem, add_inner}
use Rattle.keyed_laws.specs.Sequences.{KeyCall, add, finish, check, after_key_call, after_keyed, key_taken, key_joined}
use Rattle.keyed_laws.proofs.States.{covers, keyed_consistent_lem, keyed_accepted, begun_allowed, begun_whole, begin_keyed}

-- One add, by the digest's own statement over cuts.
inner_joined : (m : ℕ) (xs ys : List ℕ) → (add_of (state_of m [] xs) ys).state ≡ state_of m [] (xs ++ if_accepted (add_answer (state_of m [] xs) ys) ys [])
unfolding after after_call joined taken
inner_joined m xs ys = after_joined m [] xs (digest.add ys ∷ []) ∙ rw append-nil

-- The inner state of more bytes, and the same key, are the keyed state of them.
keyed_grown : (m : ℕ) (K xs ys : List ℕ) {s : State} → s ≡ state_of m [] (inner_text m K xs ++ ys) → ◌≡◌ {A = Keyed} (record { inner = s; key = (keyed_of m K xs).key }) (keyed_of m K (xs ++ ys))
unfolding keyed_of inner_text
keyed_grown m K xs ys e = rw (e, append_assoc)

inner_of : (m : ℕ) (K xs : List ℕ) → (keyed_of m K xs).inner ≡ state_of m [] (inner_text m K xs)
unfolding keyed_of
inner_of m K xs = refl

module _ (m : ℕ) (K : List ℕ) (ok : allowed m ≡ true) (whole : m % 8 ≡ 0) where
  -- A call takes the keyed state of the bytes so far to that of those and what it brings in.
  call_joined : (xs : List ℕ) → B m + length xs ≤ limit → (call : KeyCall)
      → after_key_call (keyed_of m K xs) call ≡ keyed_of m K (xs ++ key_taken (keyed_of m K xs) call)
  unfolding after_key_call key_taken key_finish_of key_check_of
  call_joined xs room (add ys) =
      let k = keyed_of m K xs in
      let c = keyed_consistent_lem m K ok whole xs room in
      ap (λ (r : Step). r.state) (sym (add_inner k ys c refl))
      ∙ rw (add_answer_lem k ys c, inner_of m K xs) (keyed_grown m K xs _ (inner_joined m (inner_text m K xs) ys))
  call_joined xs room (finish out) = rw append-nil
  call_joined xs room (check tag) = rw append-nil

  call_room : (xs : List ℕ) → B m + length xs ≤ limit → (call : KeyCall) → B m + length (xs ++ key_taken (keyed_of m K xs) call) ≤ limit
  unfolding key_taken
  call_room xs room (add ys) = by (key_add_answer (keyed_of m K xs) ys) refl
    where
      by : (a : Answer) → key_add_answer (keyed_of m K xs) ys ≡ a → B m + length (xs ++ if_accepted a ys []) ≤ limit
      by (Ok u) h = rw length-append (omega (arith, covers m K ok xs, (keyed_accepted (keyed_of m K xs) ys h).1))
      by (Err r) h = rw append-nil room
  call_room xs room (finish out) = rw append-nil room
  call_room xs room (check tag) = rw append-nil room

  after_keyed_joined : (xs : List ℕ) → B m + length xs ≤ limit → (calls : List KeyCall)
      → after_keyed (keyed_of m K xs) calls ≡ keyed_of m K (xs ++ key_joined (keyed_of m K xs) calls)
  unfolding after_keyed key_joined
  after_keyed_joined xs room [] = rw append-nil
  after_keyed_joined xs room (call ∷ calls) =
      rw (call_joined xs room call, ← append_assoc) (after_keyed_joined (xs ++ key_taken (keyed_of m K xs) call) (call_room xs room call) calls)

  joined_room : (xs : List ℕ) → B m + length xs ≤ limit → (calls : List KeyCall) → B m + length (xs ++ key_joined (keyed_of m K xs) calls) ≤ limit
  unfolding key_joined
  joined_room xs room [] = rw append-nil room
  joined_room xs room (call ∷ calls) =
      rw (call_joined xs room call, ← append_assoc) (joined_room (xs ++ key_taken (keyed_of m K xs) call) (call_room xs room call) calls)

module _ (m : ℕ) (K : List ℕ) (h : key_begin_answer m K ≡ Ok tt) (calls : List KeyCall) where
  start : B m + 0 ≤ limit
  start = omega (arith, block_max (family_of m))

  -- After any calls from an accepted begin, the keyed state is that of m, key and the accepted bytes joined.
  pub keyed_calls_joined : after_keyed (key_begin_of m K).state calls ≡ keyed_of m K (key_joined (key_begin_of m K).state calls)
  keyed_calls_joined = rw (begin_keyed m K h) (after_keyed_joined m K (begun_allowed m K h) (begun_whole m K h) [] start calls)

  pub keyed_joined_room : B m + length (key_joined (key_begin_of m K).state calls) ≤ limit
  keyed_joined_room = rw (begin_keyed m K h) (joined_room m K (begun_allowed m K h) (begun_whole m K h) [] start calls)
