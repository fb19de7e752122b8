-- The tests of a form: which test of a section decides, and the first refusal of all sections.
use mathlib.Core.Path.{◌≡◌}
use mathlib.Core.List.{List}
use Prim.Native.Nat.{ℕ, ◌+◌, ◌*◌, ◌≤◌, ◌<◌}
use native.Mathlib.Omega.{arith}
use lib.ListN.{length}
use borrow.Author.Tests.{lt-ltb, le-ltb, eq-eqb, ne_eqb}
use Rattle.answers.specs.declared.refusal.Refusal.TheVariants.{FormExtent, FormCount}
use Rattle.answers.specs.Refusal.{Answer}
use Rattle.std.specs.Prelude.{Ok, Err}
use Rattle.answers.specs.Refusal.{judged, first_of}
use Rattle.answers.proofs.Judged.{judged_first}
use Rattle.family.specs.declared.Family.{Family}
use Rattle.family.specs.declared.Family.TheVariants.{Small, Large}
use Rattle.family.specs.Family.{chain_words, salt_bytes}
use Rattle.fields.specs.Fields.{number_at}
use Rattle.saved_form.specs.Form.{salt_words, salt_place, chain_place, covered_place, held_place, held_start}
use Rattle.loading.specs.Reading.{family_in, rest_in, section_tests, family_tests, end_tests, form_tests}

module _ (form : List ℕ) (i count size : ℕ) where
  pub section_short : length form < i + 2 → Err FormExtent ≡ judged (section_tests form i count size)
  unfolding section_tests
  section_short h = rw (lt-ltb (length form) (i + 2) h)

  module _ (counted : i + 2 ≤ length form) {n : ℕ} (e : n ≡ number_at form i) where
    pub section_unfit : (n ≡ count → ⊥) → Err FormCount ≡ judged (section_tests form i count size)
    unfolding section_tests
    section_unfit h = rw (le-ltb (length form) (i + 2) counted, ne_eqb (number_at form i) count (λ z. h (rw e z)))

    pub section_cut : n ≡ count → length form < i + 2 + size → Err FormExtent ≡ judged (section_tests form i count size)
    unfolding section_tests
    section_cut h g = rw (le-ltb (length form) (i + 2) counted, eq-eqb (number_at form i) count (rw e at h), lt-ltb (length form) (i + 2 + size) g)

    pub section_whole : n ≡ count → i + 2 + size ≤ length form → (Ok tt) ≡ judged (section_tests form i count size)
    unfolding section_tests
    section_whole h g = rw (le-ltb (length form) (i + 2) counted, eq-eqb (number_at form i) count (rw e at h), le-ltb (length form) (i + 2 + size) g)

module _ (form : List ℕ) {n : ℕ} (e : n ≡ number_at form 2) where
  pub family_over : 1 < n → Err FormCount ≡ judged (family_tests form)
  unfolding family_tests
  family_over h = rw (lt-ltb 1 (number_at form 2) (omega (arith, e)))

  pub family_known : n ≤ 1 → (Ok tt) ≡ judged (family_tests form)
  unfolding family_tests
  family_known h = rw (le-ltb 1 (number_at form 2) (omega (arith, e)))

  pub family_small : n ≡ 0 → Small ≡ family_in form
  unfolding family_in
  family_small h = rw (eq-eqb (number_at form 2) 0 (rw e at h))

  pub family_large : (n ≡ 0 → ⊥) → Large ≡ family_in form
  unfolding family_in
  family_large h = rw (ne_eqb (number_at form 2) 0 (λ z. h (rw e z)))

module _ (form : List ℕ) {end place : ℕ} (e : place ≡ end) where
  pub more_follows : place < length form → Err FormExtent ≡ judged (end_tests form end)
  unfolding end_tests
  more_follows h = rw (lt-ltb end (length form) (omega (arith, e)))

  pub nothing_follows : length form ≤ place → (Ok tt) ≡ judged (end_tests form end)
  unfolding end_tests
  nothing_follows h = rw (le-ltb end (length form) (omega (arith, e)))

-- the answers of a form's sections, front to back
module _ (form : List ℕ) {family : Family} (ef : family ≡ family_in form) {rest : ℕ} (er : rest ≡ rest_in form) {a b c d e g z : Answer}
    (parameters : a ≡ judged (section_tests form 0 2 4)) (known : b ≡ judged (family_tests form))
    (salt : c ≡ judged (section_tests form salt_place (salt_words family) (salt_bytes family)))
    (chain : d ≡ judged (section_tests form (chain_place family) (chain_words family) (4 * chain_words family)))
    (covered : e ≡ judged (section_tests form (covered_place family) 1 8)) (held : g ≡ judged (section_tests form (held_place family) rest rest))
    (end : z ≡ judged (end_tests form (held_start family + rest))) where
  pub form_judged : first_of a (first_of b (first_of c (first_of d (first_of e (first_of g z))))) ≡ judged (form_tests form)
  unfolding form_tests
  form_judged =
      rw (parameters, known, salt, chain, covered, held, end, ef, er)
      (rw (
        judged_first (section_tests form 0 2 4),
        judged_first (family_tests form),
        judged_first (section_tests form salt_place (salt_words (family_in form)) (salt_bytes (family_in form))),
        judged_first (section_tests form (chain_place (family_in form)) (chain_words (family_in form)) (4 * chain_words (family_in form))),
        judged_first (section_tests form (covered_place (family_in form)) 1 8),
        judged_first (section_tests form (held_place (family_in form)) (rest_in form) (rest_in form)),
      ))
