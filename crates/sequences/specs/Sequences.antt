-- Sequences of calls on a running state: what demand 3 speaks of.
use Rattle.std.specs.Prelude.{List, [], ◌∷◌, ◌++◌, ℕ}
use Rattle.bits.specs.declared.LastBits.{LastBits}
use Rattle.state.specs.declared.State.{State}
use Rattle.answers.specs.Refusal.{if_accepted}
use Rattle.digest.specs.Calls.{add_answer, add_of}
use Rattle.finishing.specs.Finish.{finish_of}

-- add these bytes, or finish with last bits into a buffer that holds these bytes
pub data Call : Type 0 where
  add : List ℕ → Call
  finish : LastBits → List ℕ → Call

-- the state that a call hands back
unfoldable pub after_call : State → Call → State
after_call s (add xs) = (add_of s xs).state
after_call s (finish last out) = (finish_of s last out).state

unfoldable pub after : State → List Call → State
after s [] = s
after s (call ∷ calls) = after (after_call s call) calls

-- the bytes that a call brings in: those of an accepted add
unfoldable pub taken : State → Call → List ℕ
taken s (add xs) = if_accepted (add_answer s xs) xs []
taken s (finish last out) = []

-- the accepted bytes of all calls, joined
unfoldable pub joined : State → List Call → List ℕ
joined s [] = []
joined s (call ∷ calls) = taken s call ++ joined (after_call s call) calls
