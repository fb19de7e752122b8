-- Tests in their order, those of a form's sections above all: what an acceptance tells of them, and what is left of a call's answer where they pass.
use mathlib.Core.Path.{◌≡◌, refl}
use mathlib.Core.Bool.{Bool, not}
use mathlib.Core.List.{List, ◌∷◌, ◌++◌}
use Prim.Native.Nat.{ℕ, ◌+◌, ◌*◌, ◌≤◌}
use native.Mathlib.Omega.{arith}
use lib.Dec.{eqb, ltb}
use lib.ListN.{length}
use borrow.Author.Tests.{le-ltb, ltb-false, eq-eqb, eqb-true, not-false}
use Rattle.answers.specs.declared.refusal.Refusal.{Refusal}
use Rattle.answers.specs.declared.refusal.Refusal.TheVariants.{FormExtent, FormCount}
use Rattle.std.specs.Prelude.{Ok}
use Rattle.answers.specs.Refusal.{judged}
use Rattle.answers.proofs.Judged.{test_passed}
use Rattle.fields.specs.Fields.{number_at}
use Rattle.family.specs.declared.Family.{Family}
use Rattle.family.specs.Family.{chain_words, salt_bytes}
use Rattle.saved_form.specs.Form.{salt_words, salt_place, chain_place, covered_place, held_place, held_start}
use Rattle.loading.specs.Reading.{family_in, rest_in, section_tests, family_tests, end_tests, form_tests}
use Rattle.fields.proofs.There.{Section}

module _ (form : List ℕ) (i count size : ℕ) (ts : List (Bool × Refusal)) where
  pub section_passes : Section form i count size → judged (section_tests form i count size ++ ts) ≡ judged ts
  unfolding section_tests
  section_passes s =
      rw (le-ltb (length form) (i + 2) (omega (arith, s.fits)), eq-eqb (number_at form i) count s.counted, le-ltb (length form) (i + 2 + size) s.fits)

  pub section_passed : judged (section_tests form i count size ++ ts) ≡ Ok tt → Section form i count size × (judged ts ≡ Ok tt)
  unfolding section_tests
  section_passed h =
      let last : List (Bool × Refusal) = (ltb (length form) (i + 2 + size), FormExtent) ∷ ts in
      let a = test_passed (ltb (length form) (i + 2)) FormExtent ((not (eqb (number_at form i) count), FormCount) ∷ last) h in
      let b = test_passed (not (eqb (number_at form i) count)) FormCount last a.1 in
      let c = test_passed (ltb (length form) (i + 2 + size)) FormExtent ts b.1 in
      (record { counted = eqb-true (number_at form i) count (not-false (eqb (number_at form i) count) b.0); fits = ltb-false (length form) (i + 2 + size) c.0 }, c.1)

-- what an accepted form says of all its sections, where f is its family and rest its count of held bytes
pub record Whole (form : List ℕ) (f : Family) (rest : ℕ) : Type 0 where
  pub parameters : Section form 0 2 4
  pub family : number_at form 2 ≤ 1
  pub salt : Section form salt_place (salt_words f) (salt_bytes f)
  pub chain : Section form (chain_place f) (chain_words f) (4 * chain_words f)
  pub covered : Section form (covered_place f) 1 8
  pub held : Section form (held_place f) rest rest
  pub end : length form ≤ held_start f + rest

module _ (form : List ℕ) (ts : List (Bool × Refusal)) where
  abbrev f : Family
  f = family_in form

  abbrev rest : ℕ
  rest = rest_in form

  abbrev last : List (Bool × Refusal)
  last = (ltb (held_start f + rest) (length form), FormExtent) ∷ ts

  abbrev from_held : List (Bool × Refusal)
  from_held = section_tests form (held_place f) rest rest ++ last

  abbrev from_covered : List (Bool × Refusal)
  from_covered = section_tests form (covered_place f) 1 8 ++ from_held

  abbrev from_chain : List (Bool × Refusal)
  from_chain = section_tests form (chain_place f) (chain_words f) (4 * chain_words f) ++ from_covered

  abbrev from_salt : List (Bool × Refusal)
  from_salt = section_tests form salt_place (salt_words f) (salt_bytes f) ++ from_chain

  -- the tests of a form, one behind the other
  pub tests_joined : form_tests form ++ ts ≡ section_tests form 0 2 4 ++ ((ltb 1 (number_at form 2), FormCount) ∷ from_salt)
  unfolding form_tests section_tests family_tests end_tests
  tests_joined = refl

  pub form_passes : Whole form f rest → judged (form_tests form ++ ts) ≡ judged ts
  form_passes w =
      rw (
        tests_joined,
        section_passes form 0 2 4 ((ltb 1 (number_at form 2), FormCount) ∷ from_salt) w.parameters,
        le-ltb 1 (number_at form 2) w.family,
        section_passes form salt_place (salt_words f) (salt_bytes f) from_chain w.salt,
        section_passes form (chain_place f) (chain_words f) (4 * chain_words f) from_covered w.chain,
        section_passes form (covered_place f) 1 8 from_held w.covered,
        section_passes form (held_place f) rest rest last w.held,
        le-ltb (held_start f + rest) (length form) w.end,
      )

  pub form_passed : judged (form_tests form ++ ts) ≡ Ok tt → Whole form f rest × (judged ts ≡ Ok tt)
  form_passed h =
      let a = section_passed form 0 2 4 ((ltb 1 (number_at form 2), FormCount) ∷ from_salt) (rw tests_joined at h) in
      let b = test_passed (ltb 1 (number_at form 2)) FormCount from_salt a.1 in
      let c = section_passed form salt_place (salt_words f) (salt_bytes f) from_chain b.1 in
      let d = section_passed form (chain_place f) (chain_words f) (4 * chain_words f) from_covered c.1 in
      let e = section_passed form (covered_place f) 1 8 from_held d.1 in
      let g = section_passed form (held_place f) rest rest last e.1 in
      let z = test_passed (ltb (held_start f + rest) (length form)) FormExtent ts g.1 in (
        record {
          parameters = a.0;
          family = ltb-false 1 (number_at form 2) b.0;
          salt = c.0;
          chain = d.0;
          covered = e.0;
          held = g.0;
          end = ltb-false (held_start f + rest) (length form) z.0;
        },
        z.1,
      )
