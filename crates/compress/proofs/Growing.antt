-- Words that grow at their end, in an array that is filled in order: common to both families.
use mathlib.Core.Path.{◌≡◌, refl, sym, ap, ap₂, ◌∙◌}
use Prim.Native.Nat.{ℕ, zero, suc, ◌+◌, ◌-◌, ◌*◌, ◌/◌, ◌%◌, ◌≤◌, ◌<◌}
use native.Mathlib.Nat.{add-zero, add_assoc}
use native.Mathlib.Numerals.{add-one}
use native.Mathlib.Omega.{arith}
use mathlib.Core.List.{List, [], ◌∷◌, ◌++◌, append_assoc}
use lib.ListN.{length, get_or, set, take, drop, length-append}
use lib.Seq.{take-suc-set, get_or-take, length-take-le, length-sets, set_at, sets, sets-eq, take_at, take_all, drop-cons, append_snoc}
use borrow.Rule.Slice.PartMut.{put_mid}
use native.Mathlib.Decide.{ℕ_discrete}
use mathlib.Core.Bool.{cond}
use lib.Dec.{eqb}
use lib.Bits.{bit_xor, xor_zero_r}
use borrow.Author.Tests.{eq-eqb, ne_eqb}
use Rattle.words.specs.Words.{times, four_at, word_at, words_of, xor4, zero4}
use Rattle.family.specs.declared.Family.{Family}
use Rattle.family.specs.declared.Family.TheVariants.{Small, Large}
use Rattle.counter.specs.declared.Counter.{Counter}
use Rattle.family.specs.Family.{block_words, near_distance, salt_quads, runs, expanded_words}
use Rattle.family.proofs.Numbers.{numbers}
use Rattle.compress.proofs.Fours.{four_of, part_put}
use Rattle.compress.specs.Expansion.{back, places, enters, counts_of, entered_of, taps_of, last_of, group_of, linear_of, linear_run, nonlinear_run, run_of, expand_of}

pub times_more : {A : Type 0} (n : ℕ) (f : ℕ → A → A) (s : A) → times (n + 1) f s ≡ f n (times n f s)
unfolding times
times_more n f s = rw add-one

pub times_none : {A : Type 0} (f : ℕ → A → A) (s : A) → times 0 f s ≡ s
unfolding times
times_none f s = refl

-- ---- words from bytes
pub words_length : (n : ℕ) (b : List ℕ) → length (words_of n b) ≡ n
unfolding words_of
words_length zero b = refl
words_length (suc n) b = let e = words_length n b in rw length-append (omega arith)

pub words_none : (b w : List ℕ) → w ≡ words_of 0 b ++ drop 0 w
unfolding words_of
words_none b w = refl

pub words_step : (b w v : List ℕ) (j : ℕ) → j < length w → v ≡ words_of j b ++ drop j w → set v j (word_at b j) ≡ words_of (j + 1) b ++ drop (j + 1) w
unfolding words_of
words_step b w v j h e =
    rw (e, add-one, drop-cons w j 0 h, set_at (words_of j b) (get_or w j 0) (drop (suc j) w) (word_at b j) j (words_length j b))
    (sym (append_snoc (words_of j b) (word_at b j) (drop (suc j) w)))

-- ---- stores
-- a store at i is one word more
pub put_more : (l : List ℕ) (i v : ℕ) → i < length l → take (i + 1) (set l i v) ≡ take i l ++ (v ∷ [])
put_more l i v h = rw add-one (take-suc-set l i v h)

-- four stores are four words more
pub put_four : (l x : List ℕ) (i : ℕ) → length x ≡ 4 → i + 4 ≤ length l → take (i + 4) (sets l i x) ≡ take i l ++ x
put_four l x i e h =
    let n : length (take i l ++ x) ≡ i + 4 = rw (length-append, length-take-le i l (omega arith), e) in
    rw (sets-eq x l i (omega arith)) (take_at (take i l ++ x) (drop (i + length x) l) (i + 4) n)

-- four times four stores are all of sixteen words
pub stores_sixteen : (l a b c d : List ℕ) → length l ≡ 16 → length a ≡ 4 → length b ≡ 4 → length c ≡ 4 → length d ≡ 4
    → sets (sets (sets (sets l 0 a) 4 b) 8 c) 12 d ≡ a ++ (b ++ (c ++ d))
stores_sixteen l a b c d n ha hb hc hd =
    let l1 = sets l 0 a in
    let l2 = sets l1 4 b in
    let l3 = sets l2 8 c in
    let n1 : length l1 ≡ 16 = length-sets l 0 a ∙ n in
    let n2 : length l2 ≡ 16 = length-sets l1 4 b ∙ n1 in
    let n3 : length l3 ≡ 16 = length-sets l2 8 c ∙ n2 in
    let n4 : length (sets l3 12 d) ≡ 16 = length-sets l3 12 d ∙ n3 in
    let two = put_four l1 b 4 hb (omega arith) ∙ ap (λ (u : List ℕ). u ++ b) (put_four l a 0 ha (omega arith)) in
    let three = put_four l2 c 8 hc (omega arith) ∙ ap (λ (u : List ℕ). u ++ c) two in
    sym (take_all 16 (sets l3 12 d) (omega arith)) ∙ put_four l3 d 12 hd (omega arith) ∙ ap (λ (u : List ℕ). u ++ d) three ∙ append_assoc (a ++ b) c d ∙ append_assoc a b (c ++ d)

-- and so they are as parts of a slice
module _ (l a b c d na nb nc nd : List ℕ) (n : length l ≡ 16) (ha : length a ≡ 4) (hb : length b ≡ 4) (hc : length c ≡ 4) (hd : length d ≡ 4) where
  pub parts_sixteen : na ≡ sets (take 4 l) 0 a → nb ≡ sets (take 4 (drop 4 (put_mid 0 4 l na))) 0 b → nc ≡ sets (take 4 (drop 8 (put_mid 4 4 (put_mid 0 4 l na) nb))) 0 c
      → nd ≡ sets (take 4 (drop 12 (put_mid 8 4 (put_mid 4 4 (put_mid 0 4 l na) nb) nc))) 0 d
      → put_mid 12 4 (put_mid 8 4 (put_mid 4 4 (put_mid 0 4 l na) nb) nc) nd ≡ a ++ (b ++ (c ++ d))
  parts_sixteen ea eb ec ed =
      let l1 = sets l 0 a in
      let l2 = sets l1 4 b in
      let l3 = sets l2 8 c in
      let p1 : put_mid 0 4 l na ≡ l1 = part_put l a na 0 ha (omega arith) ea in
      let n1 : length (put_mid 0 4 l na) ≡ 16 = ap (λ (u : List ℕ). length u) p1 ∙ length-sets l 0 a ∙ n in
      let p2 : put_mid 4 4 (put_mid 0 4 l na) nb ≡ l2 = part_put _ b nb 4 hb (omega (arith, n1)) eb ∙ ap (λ (u : List ℕ). sets u 4 b) p1 in
      let n2 : length (put_mid 4 4 (put_mid 0 4 l na) nb) ≡ 16 = ap (λ (u : List ℕ). length u) p2 ∙ length-sets l1 4 b ∙ length-sets l 0 a ∙ n in
      let p3 : put_mid 8 4 (put_mid 4 4 (put_mid 0 4 l na) nb) nc ≡ l3 = part_put _ c nc 8 hc (omega (arith, n2)) ec ∙ ap (λ (u : List ℕ). sets u 8 c) p2 in
      let n3 : length (put_mid 8 4 (put_mid 4 4 (put_mid 0 4 l na) nb) nc) ≡ 16 = ap (λ (u : List ℕ). length u) p3 ∙ length-sets l2 8 c ∙ length-sets l1 4 b ∙ length-sets l 0 a ∙ n in
      part_put _ d nd 12 hd (omega (arith, n3)) ed ∙ ap (λ (u : List ℕ). sets u 12 d) p3 ∙ stores_sixteen l a b c d n ha hb hc hd

-- ---- words read back from an array that is filled up to i
pub back_take : (w : List ℕ) (i d : ℕ) → i ≤ length w → 0 < d → d ≤ i → get_or w (i - d) 0 ≡ back (take i w) d
unfolding back
back_take w i d h p q = sym (rw (length-take-le i w h) (get_or-take i w (i - d) 0 (omega arith)))

module _ (w : List ℕ) (i : ℕ) (h : i ≤ length w) where
  pub taps_is : (n : ℕ) → 4 ≤ n → n ≤ i
      → (get_or w (i - (n - 1)) 0 ∷ get_or w (i - (n - 2)) 0 ∷ get_or w (i - (n - 3)) 0 ∷ get_or w (i - n) 0 ∷ []) ≡ taps_of n (take i w)
  unfolding taps_of
  taps_is n p q =
      rw (
        back_take w i (n - 1) h (omega arith) (omega arith),
        back_take w i (n - 2) h (omega arith) (omega arith),
        back_take w i (n - 3) h (omega arith) (omega arith),
        back_take w i n h (omega arith) q,
      )

  pub last_is : 4 ≤ i → (get_or w (i - 4) 0 ∷ get_or w (i - 3) 0 ∷ get_or w (i - 2) 0 ∷ get_or w (i - 1) 0 ∷ []) ≡ last_of (take i w)
  unfolding last_of
  last_is q =
      rw (
        back_take w i 4 h (omega arith) q,
        back_take w i 3 h (omega arith) (omega arith),
        back_take w i 2 h (omega arith) (omega arith),
        back_take w i 1 h (omega arith) (omega arith),
      )

-- ---- what enters of the counter
-- no place of the table stands in the group at i
abbrev pub Apart : List (ℕ × ℕ) → ℕ → Type 0
Apart [] i = Unit {0}
Apart (p ∷ ps) i = (i ≡ 4 * (p.0 / 4) → ⊥) × Apart ps i

enters_none : (ps : List (ℕ × ℕ)) (i k : ℕ) → i % 4 ≡ 0 → k < 4 → Apart ps i → enters ps (i + k) ≡ 0
unfolding enters
enters_none [] i k m h a = refl
enters_none (p ∷ ps) i k m h a = rw (ne_eqb (i + k) p.0 (λ e. a.0 (omega arith))) (enters_none ps i k m h a.1)

-- nothing enters such a group
pub counts_none : (ps : List (ℕ × ℕ)) (i : ℕ) → i % 4 ≡ 0 → Apart ps i → zero4 ≡ counts_of ps i
unfolding counts_of
counts_none ps i m a =
    let n : enters ps i ≡ 0 = rw add-zero at (enters_none ps i 0 m (omega arith) a) in
    rw (n, enters_none ps i 1 m (omega arith) a, enters_none ps i 2 m (omega arith) a, enters_none ps i 3 m (omega arith) a)

pub xor_none : (x : List ℕ) → length x ≡ 4 → xor4 x zero4 ≡ x
unfolding xor4
xor_none x h = rw (xor_zero_r (get_or x 0 0), xor_zero_r (get_or x 1 0), xor_zero_r (get_or x 2 0), xor_zero_r (get_or x 3 0)) (four_of x h)

-- a group's words as the code has them
pub entered_group : (f : Family) (c : Counter) (i : ℕ) (x : List ℕ) → i % 4 ≡ 0 → entered_of f c i x ≡ xor4 x (counts_of (places f c) i)
unfolding entered_of
entered_group f c i x e = rw (eq-eqb (i % 4) 0 e)

pub entered_none : (f : Family) (c : Counter) (i : ℕ) (x : List ℕ) → length x ≡ 4 → Apart (places f c) i → x ≡ entered_of f c i x
unfolding entered_of
entered_none f c i x h a = go (ℕ_discrete (i % 4) 0)
  where
    go : Dec (i % 4 ≡ 0) → x ≡ cond (eqb (i % 4) 0) (xor4 x (counts_of (places f c) i)) x
    go (yes e) = rw (eq-eqb (i % 4) 0 e, ← counts_none (places f c) i e a) (sym (xor_none x h))
    go (no e) = rw (ne_eqb (i % 4) 0 e)

-- ---- a turn of each loop
module _ (n near : ℕ) (v w : List ℕ) (i k : ℕ) (h : i + k < length v) (hn : 0 < n) (n≤ : n ≤ i + k) (hm : 0 < near) (m≤ : near ≤ i + k)
    (e : take (i + k) v ≡ linear_run n near k w) where
  pub linear_step : take (i + (k + 1)) (set v (i + k) (bit_xor (get_or v (i + k - n) 0) (get_or v (i + k - near) 0))) ≡ linear_run n near (k + 1) w
  unfolding linear_run linear_of
  linear_step =
      let x = bit_xor (get_or v (i + k - n) 0) (get_or v (i + k - near) 0) in
      let p : x ≡ linear_of n near (take (i + k) v) = ap₂ bit_xor (back_take v (i + k) n (omega arith) hn n≤) (back_take v (i + k) near (omega arith) hm m≤) in
      ap (λ (m : ℕ). take m (set v (i + k) x)) (sym (add_assoc i k 1))
      ∙ put_more v (i + k) x h
      ∙ ap (λ (y : ℕ). take (i + k) v ++ (y ∷ [])) p
      ∙ ap (λ (u : List ℕ). u ++ (linear_of n near u ∷ [])) e
      ∙ sym (times_more k _ w)

module _ (n q : ℕ) (places : List (ℕ × ℕ)) (salt v v' w : List ℕ) (i k : ℕ)
    (e : take (i + 4 * k) v ≡ nonlinear_run n q places salt k w)
    (p : take (i + 4 * k + 4) v' ≡ take (i + 4 * k) v ++ group_of n places (four_at salt (4 * (k % q))) (take (i + 4 * k) v)) where
  pub nonlinear_step : take (i + 4 * (k + 1)) v' ≡ nonlinear_run n q places salt (k + 1) w
  unfolding nonlinear_run
  nonlinear_step =
      let a : i + 4 * (k + 1) ≡ i + 4 * k + 4 = omega arith in
      ap (λ (m : ℕ). take m v') a ∙ p ∙ ap (λ (u : List ℕ). u ++ group_of n places (four_at salt (4 * (k % q))) u) e ∙ sym (times_more k _ w)

-- ---- runs
-- a run starts at a group
pub run_group : (f : Family) (r : ℕ) → block_words f * (r + 1) % 4 ≡ 0
run_group Small r = omega arith
run_group Large r = omega arith

module _ (f : Family) (c : Counter) (salt : List ℕ) (r : ℕ) (w : List ℕ) where
  pub run_even : r % 2 ≡ 0 → run_of f c salt r w ≡ nonlinear_run (block_words f) (salt_quads f) (places f c) salt (block_words f / 4) w
  unfolding run_of
  run_even e = rw (eq-eqb (r % 2) 0 e)

  pub run_odd : (r % 2 ≡ 0 → ⊥) → run_of f c salt r w ≡ linear_run (block_words f) (near_distance f) (block_words f) w
  unfolding run_of
  run_odd e = rw (ne_eqb (r % 2) 0 e)

-- a run more
pub runs_step : (f : Family) (c : Counter) (salt start v v' : List ℕ) (r : ℕ)
    → take (block_words f * (r + 1)) v ≡ times r (run_of f c salt) start
    → take (block_words f * (r + 1) + block_words f) v' ≡ run_of f c salt r (take (block_words f * (r + 1)) v)
    → take (block_words f * (r + 1 + 1)) v' ≡ times (r + 1) (run_of f c salt) start
runs_step f c salt start v v' r e p =
    let a : block_words f * (r + 1 + 1) ≡ block_words f * (r + 1) + block_words f = omega arith in
    rw (a, times_more r (run_of f c salt) start, p, e)

-- the runs behind a block that was loaded
pub runs_all : (f : Family) (c : Counter) (salt block rest start v : List ℕ) (n k : ℕ) → n ≡ block_words f → k ≡ runs f → length v ≡ expanded_words f
    → start ≡ words_of n block ++ rest → take (block_words f * (k + 1)) v ≡ times k (run_of f c salt) (take (block_words f) start) → v ≡ expand_of f block c salt
unfolding expand_of
runs_all f c salt block rest start v n k b h l s e =
    sym (take_all (block_words f * (runs f + 1)) v (omega (arith, (numbers f).expanded))) ∙ rw (h, s, b, take_at (words_of (block_words f) block) rest (block_words f) (words_length (block_words f) block)) at e
