-- An accepted form is the form of the state that is read from it, so each state has one form; and what a refusal hands back.
use mathlib.Core.Path.{◌≡◌, refl, ap, sym, ◌∙◌}
use mathlib.Core.Bool.{Bool, true, false, not, cond}
use mathlib.Core.List.{List, [], ◌∷◌, ◌++◌, append-nil}
use Prim.Native.Nat.{ℕ, ◌+◌, ◌*◌, ◌/◌, ◌≤◌}
use native.Mathlib.Omega.{arith}
use lib.Dec.{eqb}
use lib.ListN.{take, drop, drop_of_length-le}
use lib.Seq.{drop-drop, take-add}
use borrow.Author.Tests.{eqb-true, eqb-false, not-false}
use Rattle.family.specs.declared.Family.{Family}
use Rattle.family.specs.declared.Family.TheVariants.{Small, Large}
use Rattle.family.specs.Family.{family_number, block_bytes, chain_words, salt_bytes}
use Rattle.answers.specs.declared.refusal.Refusal.{Refusal}
use Rattle.answers.specs.declared.refusal.Refusal.TheVariants.{StateInconsistent}
use Rattle.std.specs.Prelude.{Ok, Err}
use Rattle.fields.specs.Fields.{le, number_at}
use Rattle.state.specs.State.{consistent_of, zero_state}
use Rattle.state.specs.Bytes.{fill}
use Rattle.saved_form.specs.Form.{salt_words, parameter_section, salt_section, chain_section, covered_section, held_section, form_of, salt_place, chain_place, covered_place, held_place, held_start}
use Rattle.loading.specs.Reading.{family_in, covered_in, rest_in, words_in, state_in}
use Rattle.loading.specs.Calls.{load_answer, load_of}
use Rattle.fields.proofs.Numbers.{bytes, number_spelled}
use Rattle.fields.proofs.Parts.{part_length}
use Rattle.state.proofs.Filling.{fill_take}
use Rattle.answers.proofs.Judged.{test_passed}
use Rattle.fields.proofs.There.{section_join}
use Rattle.carried.proofs.Judging.{Whole, form_passed}
use Rattle.loading.proofs.Numbers.{words_length}
use Rattle.carried.proofs.Words.{words_spelled}

-- the number of the family that is read is the number that stands there
family_spelled : (form : List ℕ) → number_at form 2 ≤ 1 → family_number (family_in form) ≡ number_at form 2
unfolding family_in
family_spelled form h = by (eqb (number_at form 2) 0) refl
  where
    by : (t : Bool) → eqb (number_at form 2) 0 ≡ t → family_number (cond t Small Large) ≡ number_at form 2
    by true e = sym (eqb-true (number_at form 2) 0 e)
    by false e = omega (arith, eqb-false (number_at form 2) 0 e)

module _ (form : List ℕ) (b : bytes form) where
  module _ (w : Whole form (family_in form) (rest_in form)) where
    abbrev f : Family
    f = family_in form

    abbrev rest : ℕ
    rest = rest_in form

    parameters_join : parameter_section f (number_at form 4) ++ drop salt_place form ≡ form
    unfolding parameter_section
    parameters_join =
        let e : le 2 (number_at form 2) ++ le 2 (number_at form 4) ≡ take 4 (drop 2 form) =
        rw (number_spelled form b 2 2 (omega (arith, w.parameters.fits)), number_spelled form b 2 4 (omega (arith, w.parameters.fits)), ← drop-drop 2 2 form)
        (sym (take-add 2 2 (drop 2 form))) in
        rw (family_spelled form w.family, e) (section_join form b 0 2 4 w.parameters)

    salt_join : salt_section f (fill 64 (take (salt_bytes f) (drop (salt_place + 2) form))) ++ drop (chain_place f) form ≡ drop salt_place form
    unfolding salt_section
    salt_join =
        rw (fill_take 64 (take (salt_bytes f) (drop (salt_place + 2) form)) (salt_bytes f) (part_length form (salt_place + 2) (salt_bytes f) w.salt.fits))
        (section_join form b salt_place (salt_words f) (salt_bytes f) w.salt)

    chain_join : chain_section f (fill 16 (words_in (chain_words f) form (chain_place f + 2))) ++ drop (covered_place f) form ≡ drop (chain_place f) form
    unfolding chain_section
    chain_join =
        rw (
          fill_take 16 (words_in (chain_words f) form (chain_place f + 2)) (chain_words f) (words_length (chain_words f) form (chain_place f + 2)),
          words_spelled (chain_words f) form (chain_place f + 2) b w.chain.fits,
        ) (section_join form b (chain_place f) (chain_words f) (4 * chain_words f) w.chain)

    covered_join : covered_section (covered_in form) ++ drop (held_place f) form ≡ drop (covered_place f) form
    unfolding covered_section covered_in
    covered_join = rw (number_spelled form b 8 (covered_place f + 2) w.covered.fits) (section_join form b (covered_place f) 1 8 w.covered)

    held_join : held_section rest (fill 128 (take rest (drop (held_start f) form))) ≡ drop (held_place f) form
    unfolding held_section
    held_join =
        let none : drop (held_start f + rest) form ≡ [] = drop_of_length-le form w.end in
        rw (fill_take 128 (take rest (drop (held_start f) form)) rest (part_length form (held_start f) rest w.held.fits))
        (sym (append-nil _) ∙ rw none at (section_join form b (held_place f) rest rest w.held))

    state_form : form_of (state_in form) ≡ form
    unfolding form_of state_in rest_in
    state_form = rw (held_join, covered_join, chain_join, salt_join) parameters_join

-- ---- what an acceptance tells
module _ (form : List ℕ) (h : load_answer form ≡ Ok tt) where
  loaded : (load_of form).state ≡ state_in form
  unfolding load_of
  loaded = rw h

  pub accepted : Whole form (family_in form) (rest_in form) × (consistent_of (state_in form) ≡ true)
  unfolding load_answer
  accepted =
      let t = not (consistent_of (state_in form)) in
      let p = form_passed form ((t, StateInconsistent) ∷ []) h in
      (p.0, not-false (consistent_of (state_in form)) (test_passed t StateInconsistent [] p.1).0)

-- The form that is read is the form of its state.
pub accepted_form : (form : List ℕ) → bytes form → load_answer form ≡ Ok tt → form_of (load_of form).state ≡ form
accepted_form form b h = rw (loaded form h) (state_form form b (accepted form h).0)

-- Each state has one form.
pub one_form : (x y : List ℕ) → bytes x → bytes y → load_answer x ≡ Ok tt → load_answer y ≡ Ok tt → (load_of x).state ≡ (load_of y).state → x ≡ y
one_form x y bx by hx hy e = sym (accepted_form x bx hx) ∙ ap form_of e ∙ accepted_form y by hy

-- A state that is read is consistent, and its blocks compressed are derived from the bytes covered.
pub accepted_consistent : (form : List ℕ) → load_answer form ≡ Ok tt
    → (consistent_of (load_of form).state ≡ true) × ((load_of form).state.compressed ≡ (load_of form).state.covered.0 / block_bytes (load_of form).state.family)
accepted_consistent form h = rw (loaded form h) ((accepted form h).1, unfold state_in in refl)

-- A refusal hands back the all-zero state.
pub refused_zero : (form : List ℕ) (r : Refusal) → load_answer form ≡ Err r → (load_of form).state ≡ zero_state
unfolding load_of
refused_zero form r h = rw h
