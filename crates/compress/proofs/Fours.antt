-- Lists of four words, and stores of them read back.
use mathlib.Core.Path.{◌≡◌, refl, ap, ◌∙◌}
use mathlib.Core.Logic.{◌≢◌}
use mathlib.Core.List.{List, [], ◌∷◌, ◌++◌, append_assoc, append-nil}
use Prim.Native.Nat.{ℕ, zero, suc, ◌+◌, ◌-◌, ◌*◌, ◌≤◌, ◌<◌}
use borrow.Rule.Slice.PartMut.{put_mid}
use native.Mathlib.Nat.{add-zero}
use native.Mathlib.Numerals.{add-one, add-two, add-three, add-four}
use native.Mathlib.Omega.{arith}
use lib.ListN.{length, get_or, set, take, drop, length-append, length-drop, get_or-append, drop_of_length-le}
use lib.Seq.{sets, drop-cons, drop-set-lt, sets-eq, length-take-le, get_or-take, get_or-drop, drop-drop, get_or-append-add, get_or-set_other}
use Rattle.words.specs.Words.{word_at, four_at}

pub four_of : (x : List ℕ) → length x ≡ 4 → (get_or x 0 0 ∷ get_or x 1 0 ∷ get_or x 2 0 ∷ get_or x 3 0 ∷ []) ≡ x
four_of [] h = absurd (omega arith)
four_of (a ∷ []) h = absurd (omega arith)
four_of (a ∷ b ∷ []) h = absurd (omega arith)
four_of (a ∷ b ∷ c ∷ []) h = absurd (omega arith)
four_of (a ∷ b ∷ c ∷ d ∷ []) h = refl
four_of (a ∷ b ∷ c ∷ d ∷ e ∷ x) h = absurd (omega arith)

-- four stores in a row
pub stores_four : (l x : List ℕ) (i : ℕ) → length x ≡ 4 → set (set (set (set l i (get_or x 0 0)) (i + 1) (get_or x 1 0)) (i + 2) (get_or x 2 0)) (i + 3) (get_or x 3 0) ≡ sets l i x
stores_four l x i h = rw (add-one, add-two, add-three) (ap (sets l i) (four_of x h))

-- ---- a run of stores, read back
-- a place that was stored to
pub stored : (l : List ℕ) (p : ℕ) (x : List ℕ) (t : ℕ) → p + length x ≤ length l → t < length x → get_or (sets l p x) (p + t) 0 ≡ get_or x t 0
stored l p x t h b =
    let n : length (take p l) ≡ p = length-take-le p l (omega arith) in
    let m = length-append (take p l) x in
    rw (sets-eq x l p h, get_or-append (take p l ++ x) (drop (p + length x) l) 0 (p + t) (omega arith))
    (rw n at (get_or-append-add (take p l) x t 0))

-- a place that was not
pub kept : (x l : List ℕ) (p q : ℕ) → ((t : ℕ) → t < length x → q ≢ p + t) → get_or (sets l p x) q 0 ≡ get_or l q 0
kept [] l p q h = refl
kept (a ∷ x) l p q h =
    kept x (set l p a) (suc p) q (λ t b e. h (suc t) (omega arith) (omega arith))
    ∙ get_or-set_other l p q a 0 (λ e. h 0 (omega arith) (omega arith))

pub four_at_lem : (v : List ℕ) (i t : ℕ) → t < 4 → get_or (four_at v i) t 0 ≡ get_or v (i + t) 0
unfolding four_at
four_at_lem v i zero h = rw add-zero
four_at_lem v i (suc zero) h = refl
four_at_lem v i (suc (suc zero)) h = refl
four_at_lem v i (suc (suc (suc zero))) h = refl
four_at_lem v i (suc (suc (suc (suc t)))) h = absurd (omega arith)

pub four_length : (v : List ℕ) (i : ℕ) → length (four_at v i) ≡ 4
unfolding four_at
four_length v i = refl

-- four words that were stored, and four that were not
module _ (l x : List ℕ) (p : ℕ) (n : length x ≡ 4) where
  pub fours_stored : p + 4 ≤ length l → four_at (sets l p x) p ≡ x
  unfolding four_at
  fours_stored h =
      let at : (t : ℕ) → t < 4 → get_or (sets l p x) (p + t) 0 ≡ get_or x t 0 = λ t b. stored l p x t (omega arith) (omega arith) in
      rw (rw (add-zero p) at (at 0 (omega arith)), at 1 (omega arith), at 2 (omega arith), at 3 (omega arith)) (four_of x n)

  pub fours_kept : (q : ℕ) → ((t r : ℕ) → t < 4 → r < 4 → q + r ≢ p + t) → four_at (sets l p x) q ≡ four_at l q
  unfolding four_at
  fours_kept q d =
      let at : (r : ℕ) → r < 4 → get_or (sets l p x) (q + r) 0 ≡ get_or l (q + r) 0 = λ r b. kept x l p (q + r) (λ t k. d t r (omega arith) b) in
      rw (rw (add-zero q) at (at 0 (omega arith)), at 1 (omega arith), at 2 (omega arith), at 3 (omega arith))

-- four words off a list's front, and what a run of stores before it leaves of its end
pub four_drop : (v : List ℕ) (i : ℕ) → i + 4 ≤ length v → drop i v ≡ four_at v i ++ drop (i + 4) v
unfolding four_at
four_drop v i h =
    rw (add-one, add-two, add-three, add-four)
    (drop-cons v i 0 (omega arith)
    ∙ ap (λ (l : List ℕ). get_or v i 0 ∷ l)
    (drop-cons v (suc i) 0 (omega arith)
    ∙ ap (λ (l : List ℕ). get_or v (suc i) 0 ∷ l)
    (drop-cons v (suc (suc i)) 0 (omega arith)
    ∙ ap (λ (l : List ℕ). get_or v (suc (suc i)) 0 ∷ l) (drop-cons v (suc (suc (suc i))) 0 (omega arith)))))

pub drop_stores : (x l : List ℕ) (p n : ℕ) → p + length x ≤ n → drop n (sets l p x) ≡ drop n l
drop_stores [] l p n h = refl
drop_stores (a ∷ x) l p n h = drop_stores x (set l p a) (suc p) n (omega arith) ∙ drop-set-lt n l p a (omega arith)

-- four words, and four behind four
pub fours_joined : (x v : List ℕ) → length x ≡ 4 → (four_at (x ++ v) 0 ≡ x) × (four_at (x ++ v) 4 ≡ four_at v 0)
unfolding four_at
fours_joined [] v h = absurd (omega arith)
fours_joined (a ∷ []) v h = absurd (omega arith)
fours_joined (a ∷ b ∷ []) v h = absurd (omega arith)
fours_joined (a ∷ b ∷ c ∷ []) v h = absurd (omega arith)
fours_joined (a ∷ b ∷ c ∷ d ∷ []) v h = (refl, refl)
fours_joined (a ∷ b ∷ c ∷ d ∷ e ∷ x) v h = absurd (omega arith)

-- ---- four words as a part of a slice
-- lent
pub four_part : (w : List ℕ) (i : ℕ) → four_at (take (i + 4 - i) (drop i w)) 0 ≡ four_at w i
unfolding four_at
four_part w i =
    let e : i + 4 - i ≡ 4 = omega arith in
    let at : (t : ℕ) → t < 4 → get_or (take 4 (drop i w)) t 0 ≡ get_or w (i + t) 0 = λ t h. get_or-take 4 (drop i w) t 0 h ∙ get_or-drop i w t 0 in
    rw (e, rw (add-zero i) at (at 0 (omega arith)), at 1 (omega arith), at 2 (omega arith), at 3 (omega arith))

-- a word's four bytes, lent so
pub word_part : (b : List ℕ) (i n j : ℕ) → i ≡ 4 * j → n ≡ 4 → word_at (take n (drop i b)) 0 ≡ word_at b j
unfolding word_at
word_part b i n j e k =
    let at : (t : ℕ) → t < 4 → get_or (take 4 (drop i b)) t 0 ≡ get_or b (i + t) 0 = λ t h. get_or-take 4 (drop i b) t 0 h ∙ get_or-drop i b t 0 in
    rw (k, rw (add-zero i) at (at 0 (omega arith)), at 1 (omega arith), at 2 (omega arith), at 3 (omega arith), e)

-- and written
sets_whole : (l x : List ℕ) → length l ≡ length x → sets l 0 x ≡ x
sets_whole l x e = sets-eq x l 0 (omega arith) ∙ ap (λ (r : List ℕ). x ++ r) (drop_of_length-le l (omega arith)) ∙ append-nil x

pub part_put : (l x part : List ℕ) (i : ℕ) → length x ≡ 4 → i + 4 ≤ length l → part ≡ sets (take (i + 4 - i) (drop i l)) 0 x → put_mid i (i + 4 - i) l part ≡ sets l i x
part_put l x part i n h p =
    let e : i + 4 - i ≡ 4 = omega arith in
    let long : length (take 4 (drop i l)) ≡ length x = rw n (length-take-le 4 (drop i l) (omega (arith, length-drop i l))) in
    let whole : part ≡ x = p ∙ rw e (sets_whole (take 4 (drop i l)) x long) in
    rw (whole, e, sets-eq x l i (omega arith), n, drop-drop 4 i l, append_assoc (take i l) x (drop (i + 4) l))
