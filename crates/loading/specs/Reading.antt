-- Reading a saved form (document 02, One): front to back as in the log, the family right after its section; 9 cut, 10 a family over 1 or a count that
-- doesn't fit, 9 left-over bytes.
use Rattle.std.specs.Prelude.{Bool, not, cond, List, [], ◌∷◌, ◌++◌, ℕ, zero, suc, ◌+◌, ◌*◌, ◌/◌, ◌%◌, eqb, ltb, length, take, drop}
use Rattle.answers.specs.declared.refusal.Refusal.{Refusal}
use Rattle.answers.specs.declared.refusal.Refusal.TheVariants.{FormExtent, FormCount}
use Rattle.family.specs.declared.Family.{Family}
use Rattle.family.specs.declared.Family.TheVariants.{Small, Large}
use Rattle.family.specs.Family.{block_bytes, chain_words, salt_bytes}
use Rattle.fields.specs.Fields.{number_in, number_at}
use Rattle.state.specs.declared.State.{State}
use Rattle.state.specs.Bytes.{fill}
use Rattle.saved_form.specs.Form.{salt_words, salt_place, chain_place, covered_place, held_place, held_start}

-- what stands in a form: the family, bytes covered, and the count of held bytes that goes with them
unfoldable pub family_in : List ℕ → Family
family_in form = cond (eqb (number_at form 2) 0) Small Large

unfoldable pub covered_in : List ℕ → ℕ
covered_in form = number_in 8 form (covered_place (family_in form) + 2)

unfoldable pub rest_in : List ℕ → ℕ
rest_in form = covered_in form % block_bytes (family_in form)

-- n words of 4 bytes from place i on
unfoldable pub words_in : ℕ → List ℕ → ℕ → List ℕ
words_in zero form i = []
words_in (suc n) form i = number_in 4 form i ∷ words_in n form (i + 4)

-- The section at place i, which has a count and contents of `size` bytes: count present (9), count fits (10), contents (9).
unfoldable pub section_tests : List ℕ → ℕ → ℕ → ℕ → List (Bool × Refusal)
section_tests form i count size =
    (ltb (length form) (i + 2), FormExtent) ∷ (not (eqb (number_at form i) count), FormCount) ∷ (ltb (length form) (i + 2 + size), FormExtent) ∷ []

-- "a family over 1"
unfoldable pub family_tests : List ℕ → List (Bool × Refusal)
family_tests form = (ltb 1 (number_at form 2), FormCount) ∷ []

-- "left-over bytes"
unfoldable pub end_tests : List ℕ → ℕ → List (Bool × Refusal)
end_tests form end = (ltb end (length form), FormExtent) ∷ []

-- the tests of a whole form, front to back: parameters, family, salt words, chain words, covered, held bytes, end
unfoldable pub form_tests : List ℕ → List (Bool × Refusal)
form_tests form =
    let f = family_in form in
    section_tests form 0 2 4
    ++ (family_tests form
    ++ (section_tests form salt_place (salt_words f) (salt_bytes f)
    ++ (section_tests form (chain_place f) (chain_words f) (4 * chain_words f)
    ++ (section_tests form (covered_place f) 1 8
    ++ (section_tests form (held_place f) (rest_in form) (rest_in form)
    ++ end_tests form (held_start f + rest_in form))))))

-- The state that a form holds; "blocks compressed is derived on reading".
unfoldable pub state_in : List ℕ → State
state_in form =
    let f = family_in form in
    record {
      family = f;
      m = number_at form 4;
      salt = fill 64 (take (salt_bytes f) (drop (salt_place + 2) form));
      chain = fill 16 (words_in (chain_words f) form (chain_place f + 2));
      covered = record { 0 = covered_in form };
      compressed = covered_in form / block_bytes f;
      held = fill 128 (take (rest_in form) (drop (held_start f) form));
    }
