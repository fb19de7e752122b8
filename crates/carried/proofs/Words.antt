-- Numbers and words that stand behind a place of a list, read and spelled.
use mathlib.Core.Path.{◌≡◌, refl, ap₂, ◌∙◌}
use mathlib.Core.List.{List, [], ◌∷◌, ◌++◌, append_assoc}
use Prim.Native.Nat.{ℕ, zero, suc, ◌+◌, ◌*◌, ◌≤◌}
use native.Mathlib.Omega.{arith}
use lib.ListN.{length, take, drop}
use lib.Seq.{drop-drop, take-add}
use Rattle.fields.specs.Fields.{le, bytes_of}
use Rattle.fields.proofs.Numbers.{bytes, le_length, number_spelled}
use Rattle.fields.proofs.There.{number_there, behind}
use Rattle.loading.specs.Reading.{words_in}
use Rattle.word_bounds.proofs.Below.{Below}

-- words that stand behind place i are read there
pub words_there : (ws l : List ℕ) (i : ℕ) (ys : List ℕ) → Below ws → drop i l ≡ bytes_of ws ++ ys → words_in (length ws) l i ≡ ws
unfolding bytes_of words_in
words_there [] l i ys b e = refl
words_there (w ∷ ws) l i ys b e =
    let g : drop i l ≡ le 4 w ++ (bytes_of ws ++ ys) = e ∙ append_assoc (le 4 w) (bytes_of ws) ys in
    ap₂ (λ (x : ℕ) (r : List ℕ). x ∷ r) (number_there 4 w l i (bytes_of ws ++ ys) (b 0) g)
    (words_there ws l (i + 4) ys (λ j. b (suc j)) (behind l i 4 (le 4 w) (bytes_of ws ++ ys) (le_length 4 w) g))

-- the bytes of words are those that they were read from
pub words_spelled : (n : ℕ) (l : List ℕ) (i : ℕ) → bytes l → i + 4 * n ≤ length l → bytes_of (words_in n l i) ≡ take (4 * n) (drop i l)
unfolding bytes_of words_in
words_spelled zero l i b h = refl
words_spelled (suc n) l i b h =
    let e : 4 * suc n ≡ 4 + 4 * n = omega arith in
    rw (e, take-add 4 (4 * n) (drop i l), drop-drop 4 i l, number_spelled l b 4 i (omega arith), words_spelled n l (i + 4) b (omega arith))
