-- Reading a form that was written gives back the state, so the form tells the state.
use mathlib.Core.Path.{◌≡◌, refl, ap, sym, ◌∙◌}
use mathlib.Core.Bool.{true, not}
use mathlib.Core.List.{List, [], ◌∷◌, ◌++◌, append_assoc, append-nil}
use Prim.Native.Nat.{ℕ, zero, suc, ◌+◌, ◌*◌, ◌/◌, ◌%◌, ◌≤◌, ◌<◌}
use native.Mathlib.Omega.{arith}
use native.Mathlib.Nat.{div-eq_of_lt-le}
use lib.Dec.{ltb}
use lib.ListN.{length, take, drop}
use lib.Seq.{take_at}
use Rattle.family.specs.declared.Family.{Family}
use Rattle.family.specs.declared.Family.TheVariants.{Small, Large}
use Rattle.family.specs.Family.{family_number, block_bytes, chain_words, salt_bytes}
use Rattle.answers.specs.declared.refusal.Refusal.TheVariants.{StateInconsistent, BufferShort}
use Rattle.std.specs.Prelude.{Ok}
use Rattle.fields.specs.Fields.{le, number_at, bytes_of}
use Rattle.state.specs.declared.State.{State}
use Rattle.state.specs.State.{consistent_of}
use Rattle.digest.specs.Calls.{Step}
use Rattle.saved_form.specs.Form.{salt_words, parameter_section, salt_section, chain_section, covered_section, held_section, form_of, salt_place, chain_place, covered_place, held_place, held_start}
use Rattle.loading.specs.Reading.{family_in, covered_in, rest_in, words_in, state_in}
use Rattle.saving.specs.Calls.{save_answer, save_of, save_buffer}
use Rattle.loading.specs.Calls.{load_answer, load_of}
use Rattle.carried.specs.Stored.{Stored}
use Rattle.carried.specs.Moves.{form_left}
use Rattle.fields.proofs.Numbers.{le_length}
use Rattle.fields.proofs.There.{There, number_there, behind, there}
use Rattle.family.proofs.Sizes.{block_max, words_max, salt_max}
use Rattle.state.proofs.Filling.{fill_zeros}
use Rattle.state.proofs.Soundness.{Sound, sound}
use Rattle.finishing.proofs.Answers.{m_max}
use Rattle.digest.proofs.Shot.{passed}
use Rattle.word_bounds.proofs.Below.{Below}
use Rattle.saved_form.proofs.Lengths.{parameters_size, salt_size, words_count, chain_size, rest_below, held_size, form_length}
use Rattle.carried.proofs.Judging.{Whole, form_passes}
use Rattle.carried.proofs.Words.{words_there}

-- the first words of a list of words
take_below : (n : ℕ) (xs : List ℕ) → Below xs → Below (take n xs)
take_below zero xs h i = omega arith
take_below (suc n) [] h i = omega arith
take_below (suc n) (x ∷ xs) h zero = h 0
take_below (suc n) (x ∷ xs) h (suc i) = take_below n xs (λ j. h (suc j)) i

-- a family's number tells the family
family_read : (form : List ℕ) (f : Family) → number_at form 2 ≡ family_number f → (family_in form ≡ f) × (number_at form 2 ≤ 1)
unfolding family_in
family_read form Small e = (rw e, omega arith)
family_read form Large e = (rw e, omega arith)

family_small : (f : Family) → family_number f < 65536
family_small Small = omega arith
family_small Large = omega arith

-- what stands in the form of a consistent state
module _ (s : State) (stored : Stored s) (ok : Sound s) where
  abbrev f : Family
  f = s.family

  abbrev form : List ℕ
  form = form_of s

  abbrev rest : ℕ
  rest = s.covered.0 % block_bytes f

  abbrev from_held : List ℕ
  from_held = held_section rest s.held

  abbrev from_covered : List ℕ
  from_covered = covered_section s.covered.0 ++ from_held

  abbrev from_chain : List ℕ
  from_chain = chain_section f s.chain ++ from_covered

  abbrev from_salt : List ℕ
  from_salt = salt_section f s.salt ++ from_chain

  parameters : There form 0 2 4 (le 2 (family_number f) ++ le 2 s.m) from_salt
  unfolding form_of parameter_section
  parameters = there form 0 2 4 (le 2 (family_number f) ++ le 2 s.m) from_salt (omega arith) (parameters_size f s.m) refl

  salt : There form salt_place (salt_words f) (salt_bytes f) (take (salt_bytes f) s.salt) from_chain
  unfolding salt_section
  salt =
      there form salt_place (salt_words f) (salt_bytes f) (take (salt_bytes f) s.salt) from_chain (omega (arith, salt_max f)) (salt_size s stored.sized) parameters.next

  chain : There form (chain_place f) (chain_words f) (4 * chain_words f) (bytes_of (take (chain_words f) s.chain)) from_covered
  unfolding chain_section
  chain =
      there form (chain_place f) (chain_words f) (4 * chain_words f) (bytes_of (take (chain_words f) s.chain)) from_covered (omega (arith, words_max f))
      (chain_size s stored.sized) salt.next

  covered : There form (covered_place f) 1 8 (le 8 s.covered.0) from_held
  unfolding covered_section
  covered = there form (covered_place f) 1 8 (le 8 s.covered.0) from_held (omega arith) (le_length 8 s.covered.0) chain.next

  held : There form (held_place f) rest rest (take rest s.held) []
  unfolding held_section
  held =
      there form (held_place f) rest rest (take rest s.held) [] (omega (arith, rest_below s, block_max f)) (held_size s stored.sized)
      (covered.next ∙ sym (append-nil from_held))

  family_there : drop 2 form ≡ le 2 (family_number f) ++ (le 2 s.m ++ from_salt)
  family_there = parameters.contents_at ∙ append_assoc (le 2 (family_number f)) (le 2 s.m) from_salt

  family_at : number_at form 2 ≡ family_number f
  family_at = number_there 2 (family_number f) form 2 (le 2 s.m ++ from_salt) (family_small f) family_there

  m_at : number_at form 4 ≡ s.m
  m_at =
      number_there 2 s.m form 4 from_salt (omega (arith, m_max s.m ok.allowed))
      (behind form 2 2 (le 2 (family_number f)) (le 2 s.m ++ from_salt) (le_length 2 (family_number f)) family_there)

  same_family : family_in form ≡ f
  same_family = (family_read form f family_at).0

  salt_at : take (salt_bytes f) (drop (salt_place + 2) form) ≡ take (salt_bytes f) s.salt
  salt_at = rw salt.contents_at (take_at (take (salt_bytes f) s.salt) from_chain (salt_bytes f) (salt_size s stored.sized))

  chain_at : words_in (chain_words f) form (chain_place f + 2) ≡ take (chain_words f) s.chain
  chain_at =
      let ws = take (chain_words f) s.chain in
      rw (words_count s stored.sized) at (words_there ws form (chain_place f + 2) from_covered (take_below (chain_words f) s.chain stored.words) chain.contents_at)

  same_covered : covered_in form ≡ s.covered.0
  unfolding covered_in
  same_covered =
      rw same_family (number_there 8 s.covered.0 form (covered_place f + 2) from_held (omega (arith, ok.within)) covered.contents_at)

  same_rest : rest_in form ≡ rest
  unfolding rest_in
  same_rest = rw (same_family, same_covered)

  held_at : take rest (drop (held_start f) form) ≡ take rest s.held
  held_at = rw held.contents_at (take_at (take rest s.held) [] rest (held_size s stored.sized))

  whole : Whole form (family_in form) (rest_in form)
  whole =
      rw (same_family, same_rest) (record {
        parameters = parameters.section;
        family = (family_read form f family_at).1;
        salt = salt.section;
        chain = chain.section;
        covered = covered.section;
        held = held.section;
        end = omega (arith, form_length s stored.sized);
      })

  derived : s.compressed ≡ s.covered.0 / block_bytes f
  derived = sym (div-eq_of_lt-le (block_bytes f) (omega (arith, ok.whole)) (omega (arith, ok.whole, ok.below)))

  same_state : s ≡ state_in form
  unfolding state_in
  same_state =
      rw (same_family, same_covered, same_rest, m_at, salt_at, chain_at, held_at) (λ i. record {
        family = f;
        m = s.m;
        salt = fill_zeros 64 (salt_bytes f) s.salt stored.sized.salt (salt_max f) ok.salted i;
        chain = fill_zeros 16 (chain_words f) s.chain stored.sized.chain (words_max f) ok.chained i;
        covered = s.covered;
        compressed = derived i;
        held = fill_zeros 128 rest s.held stored.sized.held (omega (arith, ok.below, block_max f)) ok.rest i;
      })

-- Reading what was written gives the same state.
pub load_form : (s : State) → Stored s → consistent_of s ≡ true → load_of (form_of s) ≡ record { answer = Ok tt; state = s }
unfolding load_of load_answer
load_form s stored h =
    let ok = sound s h in
    let same = sym (same_state s stored ok) in
    rw (form_passes (form_of s) ((not (consistent_of (state_in (form_of s))), StateInconsistent) ∷ []) (whole s stored ok), same, h)

save_consistent : (s : State) (out : List ℕ) → save_answer s out ≡ Ok tt → consistent_of s ≡ true
unfolding save_answer
save_consistent s out h = (passed (consistent_of s) (ltb (length out) (length (form_of s))) StateInconsistent BufferShort h).0

-- A form that a save left at the buffer's front is read as the saved state.
pub save_load : (s : State) (out : List ℕ) → Stored s → save_answer s out ≡ Ok tt → load_of (form_left s out) ≡ record { answer = Ok tt; state = s }
unfolding form_left save_of save_buffer
save_load s out stored h =
    rw (h, take_at (form_of s) (drop (length (form_of s)) out) (length (form_of s)) refl) (load_form s stored (save_consistent s out h))

-- No two consistent states have the same form.
pub form_tells : (s t : State) → Stored s → Stored t → consistent_of s ≡ true → consistent_of t ≡ true → form_of s ≡ form_of t → s ≡ t
form_tells s t stored stored' h h' e =
    ap (λ (x : Step). x.state) (sym (load_form s stored h) ∙ ap load_of e ∙ load_form t stored' h')
