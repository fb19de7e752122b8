-- A form's length is told by its bytes: a form that is cut anywhere, and one with bytes left over, is refused with 9, and no accepted form opens another.
use mathlib.Core.Path.{◌≡◌, refl, ◌∙◌}
use mathlib.Core.Bool.{Bool, true, false, not}
use mathlib.Core.List.{List, [], ◌∷◌, ◌++◌}
use Prim.Native.Nat.{ℕ, zero, suc, ◌+◌, ◌*◌, ◌≤◌, ◌<◌}
use native.Mathlib.Omega.{arith}
use lib.Dec.{eqb, ltb}
use lib.ListN.{length, get_or, take, length-append, get_or-append}
use lib.Seq.{get_or-take, length-take-le}
use borrow.Author.Tests.{ltb-false, lt-ltb, le-ltb, eq-eqb}
use Rattle.answers.specs.declared.refusal.Refusal.{Refusal}
use Rattle.answers.specs.declared.refusal.Refusal.TheVariants.{StateInconsistent, FormExtent, FormCount}
use Rattle.std.specs.Prelude.{Ok, Err}
use Rattle.answers.specs.Refusal.{judged}
use Rattle.fields.specs.Fields.{number_in, number_at}
use Rattle.family.specs.Family.{chain_words, salt_bytes}
use Rattle.state.specs.State.{consistent_of}
use Rattle.saved_form.specs.Form.{salt_words, salt_place, chain_place, covered_place, held_place, held_start}
use Rattle.loading.specs.Reading.{family_in, covered_in, rest_in, state_in, section_tests, form_tests}
use Rattle.loading.specs.Calls.{load_answer}
use Rattle.fields.proofs.There.{Section}
use Rattle.carried.proofs.Judging.{Whole, section_passes, tests_joined}
use Rattle.carried.proofs.Exact.{accepted}

-- a section that is cut: either its count is, or its count fits and its contents are
extent_refused : (t u : Bool) (ts : List (Bool × Refusal)) → (t ≡ false → u ≡ false)
    → judged ((t, FormExtent) ∷ (u, FormCount) ∷ (true, FormExtent) ∷ ts) ≡ Err FormExtent
extent_refused true u ts h = refl
extent_refused false u ts h = rw (h refl)

-- two lists with the same bytes as far as both go
module _ (x y : List ℕ) (same : (i : ℕ) → i < length x → i < length y → get_or y i 0 ≡ get_or x i 0) where
  number_same : (k i : ℕ) → i + k ≤ length x → i + k ≤ length y → number_in k y i ≡ number_in k x i
  unfolding number_in
  number_same zero i hx hy = refl
  number_same (suc k) i hx hy = rw (same i (omega arith) (omega arith), number_same k (i + 1) (omega arith) (omega arith))

  -- where x has a section, y has it or is refused there
  section_extent : (i count size : ℕ) (ts : List (Bool × Refusal)) → Section x i count size → (Section y i count size → judged ts ≡ Err FormExtent)
      → judged (section_tests y i count size ++ ts) ≡ Err FormExtent
  unfolding section_tests
  section_extent i count size ts s next = by (ltb (length y) (i + 2 + size)) refl
    where
      counted : i + 2 ≤ length y → number_at y i ≡ count
      counted h = number_same 2 i (omega (arith, s.fits)) h ∙ s.counted

      by : (t : Bool) → ltb (length y) (i + 2 + size) ≡ t → judged (section_tests y i count size ++ ts) ≡ Err FormExtent
      by true e =
          rw e (extent_refused (ltb (length y) (i + 2)) (not (eqb (number_at y i) count)) ts (λ h.
          rw (eq-eqb (number_at y i) count (counted (ltb-false (length y) (i + 2) h)))))
      by false e =
          let h : i + 2 + size ≤ length y = ltb-false (length y) (i + 2 + size) e in
          let g : Section y i count size = record { counted = counted (omega arith); fits = h } in
          section_passes y i count size ts g ∙ next g

  family_same : 6 ≤ length x → 6 ≤ length y → family_in x ≡ family_in y
  unfolding family_in
  family_same hx hy = rw (number_same 2 2 (omega arith) (omega arith))

  rest_same : family_in x ≡ family_in y → held_place (family_in y) ≤ length x → held_place (family_in y) ≤ length y → rest_in x ≡ rest_in y
  unfolding rest_in covered_in
  rest_same e hx hy = rw (e, number_same 8 (covered_place (family_in y) + 2) hx hy)

  -- where x is a whole form, y is refused unless it is as long
  length_told : (ts : List (Bool × Refusal)) → Whole x (family_in x) (rest_in x) → (length y ≡ length x → ⊥) → judged (form_tests y ++ ts) ≡ Err FormExtent
  length_told ts w other =
      let f = family_in y in
      let rest = rest_in y in
      rw (tests_joined y ts) (section_extent 0 2 4 _ w.parameters (λ a.
      let e = family_same w.parameters.fits a.fits in
      let v : Whole x f (rest_in x) = rw e at w in
      let n = number_same 2 2 (omega (arith, w.parameters.fits)) (omega (arith, a.fits)) in
      rw (le-ltb 1 (number_at y 2) (omega (arith, n, w.family)))
      (section_extent salt_place (salt_words f) (salt_bytes f) _ v.salt (λ _.
      section_extent (chain_place f) (chain_words f) (4 * chain_words f) _ v.chain (λ _.
      section_extent (covered_place f) 1 8 _ v.covered (λ d.
      let u : Whole x f rest = rw (rest_same e v.covered.fits d.fits) at v in
      section_extent (held_place f) rest rest _ u.held (λ g.
      rw (lt-ltb (held_start f + rest) (length y) (omega (arith, u.held.fits, u.end, g.fits, other))))))))))

  load_told : load_answer x ≡ Ok tt → (length y ≡ length x → ⊥) → load_answer y ≡ Err FormExtent
  load_told h = unfold load_answer in length_told ((not (consistent_of (state_in y)), StateInconsistent) ∷ []) (accepted x h).0

-- A form that is cut anywhere is refused with 9.
pub cut_refused : (form : List ℕ) (n : ℕ) → load_answer form ≡ Ok tt → n < length form → load_answer (take n form) ≡ Err FormExtent
cut_refused form n h k =
    let e : length (take n form) ≡ n = length-take-le n form (omega arith) in
    load_told form (take n form) (λ i _ g. get_or-take n form i 0 (omega (arith, e))) h (λ z. omega (arith, e))

-- A form with bytes left over is refused with 9.
pub more_refused : (form more : List ℕ) → load_answer form ≡ Ok tt → 0 < length more → load_answer (form ++ more) ≡ Err FormExtent
more_refused form more h k =
    load_told form (form ++ more) (λ i g _. get_or-append form more 0 i g) h (λ z. omega (arith, length-append form more))

-- No accepted form is the opening of another.
pub no_form_opens : (x more : List ℕ) → load_answer x ≡ Ok tt → load_answer (x ++ more) ≡ Ok tt → more ≡ []
no_form_opens x [] h g = refl
no_form_opens x (b ∷ more) h g =
    let e = more_refused x (b ∷ more) h (omega arith) in
    let z : ◌≡◌ {A = ℕ} 0 1 = cc in
    absurd (omega arith)
