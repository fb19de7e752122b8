-- Sequences of calls on a keyed state: demand 3's, for keyed digests (document 02, Eight: "the statement over cuts included").
use Rattle.std.specs.Prelude.{List, [], ◌∷◌, ◌++◌, ℕ}
use Rattle.answers.specs.Refusal.{if_accepted}
use Rattle.keyed_state.specs.declared.Keyed.{Keyed}
use Rattle.keyed.specs.Calls.{key_add_answer, key_add_of, key_finish_of, key_check_of}

-- add these bytes, finish into a buffer that holds these bytes, or check this tag
pub data KeyCall : Type 0 where
  add : List ℕ → KeyCall
  finish : List ℕ → KeyCall
  check : List ℕ → KeyCall

-- the keyed state that a call hands back
unfoldable pub after_key_call : Keyed → KeyCall → Keyed
after_key_call k (add xs) = (key_add_of k xs).state
after_key_call k (finish out) = (key_finish_of k out).state
after_key_call k (check tag) = (key_check_of k tag).state

unfoldable pub after_keyed : Keyed → List KeyCall → Keyed
after_keyed k [] = k
after_keyed k (call ∷ calls) = after_keyed (after_key_call k call) calls

-- the bytes that a call brings in: those of an accepted add
unfoldable pub key_taken : Keyed → KeyCall → List ℕ
key_taken k (add xs) = if_accepted (key_add_answer k xs) xs []
key_taken k (finish out) = []
key_taken k (check tag) = []

-- the accepted bytes of all calls, joined
unfoldable pub key_joined : Keyed → List KeyCall → List ℕ
key_joined k [] = []
key_joined k (call ∷ calls) = key_taken k call ++ key_joined (after_key_call k call) calls
