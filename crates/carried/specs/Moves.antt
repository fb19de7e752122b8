-- Sequences of calls on a running state in which it may be saved, and read back, anywhere: what demand 3 speaks of from document 02's request One on.
use Rattle.std.specs.Prelude.{List, [], ◌∷◌, ◌++◌, ℕ, take}
use Rattle.answers.specs.Refusal.{if_accepted}
use Rattle.answers.specs.Written.{written_length}
use Rattle.state.specs.declared.State.{State}
use Rattle.sequences.specs.Sequences.{Call, after_call, taken}
use Rattle.saving.specs.Calls.{save_answer, save_of, save_buffer}
use Rattle.loading.specs.Calls.{load_of}

-- An add or a finish; a save into a buffer that holds these bytes; or such a save, and going on from what is read back.
pub data Move : Type 0 where
  call : Call → Move
  save : List ℕ → Move
  carry : List ℕ → Move

-- the form that a save leaves at the buffer's front: as many bytes as it answers
unfoldable pub form_left : State → List ℕ → List ℕ
form_left s out = take (written_length (save_of s out).answer) (save_buffer s out)

-- The state that goes on after a move. A refused save leaves no form: what goes on is the state that it hands back.
unfoldable pub after_move : State → Move → State
after_move s (call c) = after_call s c
after_move s (save out) = (save_of s out).state
after_move s (carry out) = if_accepted (save_answer s out) (load_of (form_left s out)).state (save_of s out).state

unfoldable pub after_moves : State → List Move → State
after_moves s [] = s
after_moves s (move ∷ moves) = after_moves (after_move s move) moves

-- the bytes that a move brings in: those of an accepted add
unfoldable pub taken_by : State → Move → List ℕ
taken_by s (call c) = taken s c
taken_by s (save out) = []
taken_by s (carry out) = []

-- the accepted bytes of all moves, joined
unfoldable pub joined_by : State → List Move → List ℕ
joined_by s [] = []
joined_by s (move ∷ moves) = taken_by s move ++ joined_by (after_move s move) moves
