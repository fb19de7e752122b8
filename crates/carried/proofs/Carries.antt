-- Saving a state, and going on from what is read back, changes nothing: after any moves from an accepted begin only the accepted bytes, joined, matter.
use mathlib.Core.Path.{◌≡◌, refl, ap}
use mathlib.Core.Bool.{true}
use mathlib.Core.List.{List, [], ◌∷◌, ◌++◌, append-nil}
use Prim.Native.Nat.{ℕ, ◌/◌, ◌≤◌}
use native.Mathlib.Omega.{arith}
use lib.ListN.{length}
use Rattle.family.specs.declared.Family.{Family}
use Rattle.family.specs.Family.{family_of, block_bytes}
use Rattle.counter.specs.Counter.{counter_of}
use Rattle.answers.specs.Refusal.{Answer}
use Rattle.std.specs.Prelude.{Ok, Err}
use Rattle.answers.specs.Refusal.{if_accepted}
use Rattle.bits.specs.declared.LastBits.{LastBits}
use Rattle.bits.specs.Message.{message_of}
use Rattle.startup.specs.Startup.{start_of}
use Rattle.state.specs.declared.State.{State}
use Rattle.state.specs.Bytes.{fill}
use Rattle.state.specs.State.{limit}
use Rattle.finishing.specs.Blocks.{whole_blocks, chain_over}
use Rattle.digest.specs.Running.{state_of}
use Rattle.digest.specs.Calls.{salt_fits, begin_answer, begin_of, one_shot_of, one_shot_buffer}
use Rattle.finishing.specs.Finish.{finish_of, finish_buffer}
use Rattle.sequences.specs.Sequences.{Call, after_call, after, taken, joined}
use Rattle.saving.specs.Calls.{save_answer, save_of}
use Rattle.loading.specs.Calls.{load_of}
use Rattle.carried.specs.Stored.{Stored}
use Rattle.carried.specs.Moves.{Move, call, save, carry, form_left, after_move, after_moves, taken_by, joined_by}
use Rattle.family.proofs.Sizes.{salt_max}
use Rattle.startup.proofs.Started.{start_length}
use Rattle.word_bounds.proofs.Below.{Below, compress_below, start_below}
use Rattle.state.proofs.Filling.{fill_length}
use Rattle.digest.proofs.Tests.{salt_size}
use Rattle.finishing.proofs.Blocking.{chain_length}
use Rattle.digest.proofs.Cuts.{state_full}
use Rattle.digest.proofs.Shot.{begin_accepted, begin_state}
use Rattle.sequences.proofs.Joined.{after_joined, calls_joined, joined_length, calls_finish}
use Rattle.carried.proofs.Back.{save_load}

-- the chain's words stay below 2^32
chain_below : (f : Family) (salt : List ℕ) (xs : List (ℕ × List ℕ)) (c : List ℕ) → Below c → Below (chain_over f salt xs c)
unfolding chain_over
chain_below f salt [] c h = h
chain_below f salt (x ∷ xs) c h = chain_below f salt xs _ (compress_below f c x.1 (counter_of x.0) salt h)

-- The state of a message is what its type says.
pub state_stored : (m : ℕ) (salt xs : List ℕ) → salt_fits (family_of m) salt ≡ true → Stored (state_of m salt xs)
unfolding state_of
state_stored m salt xs fits =
    let f = family_of m in
    let blocks = whole_blocks (length xs / block_bytes f) (block_bytes f) 0 xs in
    record {
      sized = record {
        salt = fill_length 64 salt (omega (arith, salt_size f salt fits, salt_max f));
        chain = chain_length f (fill 64 salt) blocks (start_of f m) (start_length f m);
        held = state_full m salt xs;
      };
      words = chain_below f (fill 64 salt) blocks (start_of f m) (start_below f m);
    }

-- Going on from what is read back is going on from the state.
carry_keeps : (s : State) → Stored s → (out : List ℕ) → after_move s (carry out) ≡ s
unfolding after_move save_of
carry_keeps s stored out = by (save_answer s out) refl
  where
    by : (a : Answer) → save_answer s out ≡ a → if_accepted a (load_of (form_left s out)).state s ≡ s
    by (Ok u) e = rw (save_load s out stored e)
    by (Err r) e = refl

-- the calls among moves
calls : List Move → List Call
calls [] = []
calls (call c ∷ moves) = c ∷ calls moves
calls (save out ∷ moves) = calls moves
calls (carry out ∷ moves) = calls moves

module _ (m : ℕ) (salt : List ℕ) (fits : salt_fits (family_of m) salt ≡ true) where
  -- The moves do what their calls do.
  moves_calls : (xs : List ℕ) (moves : List Move)
      → (after_moves (state_of m salt xs) moves ≡ after (state_of m salt xs) (calls moves)) × (joined_by (state_of m salt xs) moves ≡ joined (state_of m salt xs) (calls moves))
  unfolding after_moves joined_by after_move taken_by after joined save_of calls
  moves_calls xs [] = (refl, refl)
  moves_calls xs (call c ∷ moves) =
      let next : after_call (state_of m salt xs) c ≡ state_of m salt (xs ++ taken (state_of m salt xs) c) = rw append-nil at (after_joined m salt xs (c ∷ [])) in
      let more = rw (← next) at (moves_calls (xs ++ taken (state_of m salt xs) c) moves) in
      (more.0, ap (λ (l : List ℕ). taken (state_of m salt xs) c ++ l) more.1)
  moves_calls xs (save out ∷ moves) = moves_calls xs moves
  moves_calls xs (carry out ∷ moves) = rw (carry_keeps (state_of m salt xs) (state_stored m salt xs fits) out) (moves_calls xs moves)

module _ (m : ℕ) (salt : List ℕ) (h : begin_answer m salt ≡ Ok tt) (moves : List Move) where
  by_calls : (after_moves (begin_of m salt).state moves ≡ after (begin_of m salt).state (calls moves))
      × (joined_by (begin_of m salt).state moves ≡ joined (begin_of m salt).state (calls moves))
  by_calls = rw (begin_state m salt h) (moves_calls m salt (begin_accepted m salt h).1 [] moves)

  -- After any moves from an accepted begin, the state is that of the accepted bytes joined.
  pub moves_joined : after_moves (begin_of m salt).state moves ≡ state_of m salt (joined_by (begin_of m salt).state moves)
  moves_joined = rw (by_calls.0, by_calls.1) (calls_joined m salt (calls moves) h)

  pub moves_length : length (joined_by (begin_of m salt).state moves) ≤ limit
  moves_length = rw by_calls.1 (joined_length m salt (calls moves) h)

  -- Finishing it with any last bits reports and writes what one-shot does for those bytes and bits.
  pub moves_finish : (last : LastBits) (out : List ℕ)
      → ((finish_of (after_moves (begin_of m salt).state moves) last out).answer ≡ one_shot_of m salt (message_of (joined_by (begin_of m salt).state moves) last) out)
      × (finish_buffer (after_moves (begin_of m salt).state moves) last out ≡ one_shot_buffer m salt (message_of (joined_by (begin_of m salt).state moves) last) out)
  moves_finish last out = rw (by_calls.0, by_calls.1) (calls_finish m salt (calls moves) h last out)
