-- Words of the definition, read back by their place.
use mathlib.Core.Path.{◌≡◌, refl, sym, ap, ap₂, ◌∙◌}
use Prim.Native.Nat.{ℕ, zero, suc, ◌+◌, ◌-◌, ◌*◌, ◌/◌, ◌%◌, ◌≤◌, ◌<◌}
use native.Mathlib.Nat.{add-zero, zero-add, add-suc, mul-zero, one-mul}
use native.Mathlib.Omega.{arith}
use native.Mathlib.Decide.{ℕ_discrete}
use mathlib.Core.List.{List, [], ◌∷◌, ◌++◌, append_assoc, append-nil}
use lib.ListN.{length, get_or, take, length-append, get_or-append}
use lib.Seq.{get_or_at, get_or-append-add, take_at}
use lib.Bits.{bit_xor}
use Rattle.words.specs.Words.{times, four_at, word_at, words_of, xor4}
use Rattle.family.specs.declared.Family.{Family}
use Rattle.family.specs.declared.Family.TheVariants.{Small}
use Rattle.counter.specs.declared.Counter.{Counter}
use Rattle.family.specs.Family.{block_words, near_distance, salt_quads, runs}
use Rattle.family.proofs.Numbers.{numbers}
use Rattle.compress.specs.Expansion.{back, places, taps_of, last_of, counts_of, group_of, linear_of, linear_run, nonlinear_run, run_of, expand_of}
use Rattle.compress.specs.Window.{nonlinear_from, linear_from}
use Rattle.compress.proofs.Fours.{four_of}
use Rattle.compress.proofs.Growing.{times_more, times_none, words_length, run_even, run_odd}

-- ---- words of a list of bytes
word_of : (n : ℕ) (b : List ℕ) (j : ℕ) → j < n → get_or (words_of n b) j 0 ≡ word_at b j
unfolding words_of
word_of zero b j h = absurd (omega arith)
word_of (suc n) b j h = go (ℕ_discrete j n) (word_of n b j)
  where
    go : Dec (j ≡ n) → (j < n → get_or (words_of n b) j 0 ≡ word_at b j) → get_or (words_of n b ++ (word_at b n ∷ [])) j 0 ≡ word_at b j
    go (yes e) r = rw e (get_or_at (words_of n b) (word_at b n) [] 0 n (words_length n b))
    go (no e) r = let l = words_length n b in get_or-append (words_of n b) (word_at b n ∷ []) 0 j (omega arith) ∙ r (omega arith)

-- four of them
pub words_four : (n : ℕ) (b : List ℕ) (j : ℕ) → j + 4 ≤ n
    → four_at (words_of n b) j ≡ word_at b j ∷ word_at b (j + 1) ∷ word_at b (j + 2) ∷ word_at b (j + 3) ∷ []
unfolding four_at
words_four n b j h =
    rw (word_of n b j (omega arith), word_of n b (j + 1) (omega arith), word_of n b (j + 2) (omega arith), word_of n b (j + 3) (omega arith))

-- ---- a list that grows: v is u and d words more
record Adds (d : ℕ) (u v : List ℕ) : Type 0 where
  rest : List ℕ
  is : v ≡ u ++ rest
  size : length rest ≡ d

-- none more, and some after some
adds_none : (u : List ℕ) → Adds 0 u u
adds_none u = record { rest = []; is = sym (append-nil u); size = refl }

adds_both : {d e : ℕ} {u v w : List ℕ} → Adds d u v → Adds e v w → Adds (d + e) u w
adds_both {u = u} p q =
    record {
      rest = p.rest ++ q.rest;
      is = q.is ∙ ap (λ (l : List ℕ). l ++ q.rest) p.is ∙ append_assoc u p.rest q.rest;
      size = length-append p.rest q.rest ∙ ap₂ ◌+◌ p.size q.size;
    }

adds_length : {d : ℕ} {u v : List ℕ} → Adds d u v → length v ≡ length u + d
adds_length {u = u} p = ap length p.is ∙ length-append u p.rest ∙ ap (λ (n : ℕ). length u + n) p.size

-- what is read of the front is read of the whole
adds_read : {d : ℕ} {u v : List ℕ} → Adds d u v → (j : ℕ) → j < length u → get_or v j 0 ≡ get_or u j 0
adds_read {u = u} p j h = ap (λ (l : List ℕ). get_or l j 0) p.is ∙ get_or-append u p.rest 0 j h

-- the front is as many words of it
adds_front : {d : ℕ} {u v : List ℕ} → Adds d u v → (i : ℕ) → length u ≡ i → take i v ≡ u
adds_front {u = u} p i n = ap (λ (l : List ℕ). take i l) p.is ∙ take_at u p.rest i n

-- and four words of it too
four_read : {d : ℕ} {u v : List ℕ} → Adds d u v → (i : ℕ) → i + 4 ≤ length u → four_at v i ≡ four_at u i
unfolding four_at
four_read p i h = rw (adds_read p i (omega arith), adds_read p (i + 1) (omega arith), adds_read p (i + 2) (omega arith), adds_read p (i + 3) (omega arith))

-- steps that each add d words: any number of them, and any number more
module _ (f : ℕ → List ℕ → List ℕ) (d : ℕ) (each : (k : ℕ) (u : List ℕ) → Adds d u (f k u)) (s : List ℕ) where
  adds_more : (n m : ℕ) → Adds (d * m) (times n f s) (times (n + m) f s)
  unfolding times
  adds_more n zero = rw (add-zero, mul-zero) (adds_none (times n f s))
  adds_more n (suc m) =
      let e : d * suc m ≡ d * m + d = omega arith in
      rw (e, add-suc) (adds_both (adds_more n m) (each (n + m) (times (n + m) f s)))

  adds_all : (n : ℕ) → Adds (d * n) s (times n f s)
  adds_all n = rw (zero-add, times_none f s) at (adds_more 0 n)

  -- what step n leaves is the front of what any later one does
  adds_step : (n m : ℕ) → n < m → Adds (d * (m - (n + 1))) (f n (times n f s)) (times m f s)
  adds_step n m h = let e : n + 1 + (m - (n + 1)) ≡ m = omega arith in rw (e, times_more n f s) at (adds_more (n + 1) (m - (n + 1)))

-- ---- reading back: p is the front of v, and its length is i
module _ {d : ℕ} {p v : List ℕ} (a : Adds d p v) (i : ℕ) (n : length p ≡ i) where
  back_is : (e : ℕ) → 0 < e → e ≤ i → back p e ≡ get_or v (i - e) 0
  unfolding back
  back_is e h k = rw n (sym (adds_read a (i - e) (omega arith)))

  -- counted from m back
  back_from : (m t : ℕ) → t < m → m ≤ i → back p (m - t) ≡ get_or v (i - m + t) 0
  back_from m t h k = let e : i - (m - t) ≡ i - m + t = omega arith in rw e at (back_is (m - t) (omega arith) (omega arith))

  -- a group and a linear word behind p, by words of v
  group_is : (m : ℕ) (ps : List (ℕ × ℕ)) (salt4 : List ℕ) → 4 ≤ m → m ≤ i
      → group_of m ps salt4 p ≡ nonlinear_from (four_at v (i - m)) (four_at v (i - 4)) salt4 (counts_of ps i)
  unfolding group_of taps_of last_of nonlinear_from four_at
  group_is m ps salt4 h k =
      rw (
        back_from m 1 (omega arith) k,
        back_from m 2 (omega arith) k,
        back_from m 3 (omega arith) k,
        back_is m (omega arith) k,
        back_is 4 (omega arith) (omega arith),
        back_from 4 1 (omega arith) (omega arith),
        back_from 4 2 (omega arith) (omega arith),
        back_from 4 3 (omega arith) (omega arith),
        n,
      )

  linear_is : (m near : ℕ) → 0 < m → m ≤ i → 0 < near → near ≤ i → linear_of m near p ≡ bit_xor (get_or v (i - m) 0) (get_or v (i - near) 0)
  unfolding linear_of
  linear_is m near h k g l = ap₂ bit_xor (back_is m h k) (back_is near g l)

-- what was added behind p stands at p's length
module _ (p g : List ℕ) {d : ℕ} {v : List ℕ} (a : Adds d (p ++ g) v) (i : ℕ) (n : length p ≡ i) where
  added_at : (t : ℕ) → t < length g → get_or v (i + t) 0 ≡ get_or g t 0
  added_at t h = let l = length-append p g in adds_read a (i + t) (omega arith) ∙ rw n at (get_or-append-add p g t 0)

  added_four : length g ≡ 4 → four_at v i ≡ g
  unfolding four_at
  added_four h =
      let z : get_or v i 0 ≡ get_or g 0 0 = rw add-zero at (added_at 0 (omega arith)) in
      rw (z, added_at 1 (omega arith), added_at 2 (omega arith), added_at 3 (omega arith)) (four_of g h)

-- ---- the runs
module _ (f : Family) (block : List ℕ) (c : Counter) (salt : List ℕ) where
  -- a nonlinear run's words after k groups, and its group k behind any words
  abbrev groups : ℕ → List ℕ → List ℕ
  groups k w = nonlinear_run (block_words f) (salt_quads f) (places f c) salt k w

  abbrev group : ℕ → List ℕ → List ℕ
  group k u = group_of (block_words f) (places f c) (four_at salt (4 * (k % salt_quads f))) u

  group_length : (k : ℕ) (u : List ℕ) → length (group k u) ≡ 4
  unfolding group_of xor4
  group_length k u = refl

  group_adds : (k : ℕ) (u : List ℕ) → Adds 4 u (u ++ group k u)
  group_adds k u = record { rest = group k u; is = refl; size = group_length k u }

  groups_add : (w : List ℕ) (k : ℕ) → Adds (4 * k) w (groups k w)
  unfolding nonlinear_run
  groups_add = adds_all _ 4 group_adds

  groups_step : (w : List ℕ) (k n : ℕ) → k < n → Adds (4 * (n - (k + 1))) (groups k w ++ group k (groups k w)) (groups n w)
  unfolding nonlinear_run
  groups_step = adds_step _ 4 group_adds

  -- a linear run's words after k words, and the next behind any words
  abbrev singles : ℕ → List ℕ → List ℕ
  singles k w = linear_run (block_words f) (near_distance f) k w

  abbrev single : List ℕ → List ℕ
  single u = linear_of (block_words f) (near_distance f) u ∷ []

  single_adds : (k : ℕ) (u : List ℕ) → Adds 1 u (u ++ single u)
  single_adds k u = record { rest = single u; is = refl; size = refl }

  singles_add : (w : List ℕ) (k : ℕ) → Adds (1 * k) w (singles k w)
  unfolding linear_run
  singles_add = adds_all _ 1 single_adds

  singles_step : (w : List ℕ) (k n : ℕ) → k < n → Adds (1 * (n - (k + 1))) (singles k w ++ single (singles k w)) (singles n w)
  unfolding linear_run
  singles_step = adds_step _ 1 single_adds

  -- either run adds a block's words
  run_adds : (r : ℕ) (w : List ℕ) → Adds (block_words f) w (run_of f c salt r w)
  run_adds r w = go (ℕ_discrete (r % 2) 0)
    where
      go : Dec (r % 2 ≡ 0) → Adds (block_words f) w (run_of f c salt r w)
      go (yes e) = rw (run_even f c salt r w e) (rw (numbers f).groups at (groups_add w (block_words f / 4)))
      go (no e) = rw (run_odd f c salt r w e) (rw one-mul at (singles_add w (block_words f)))

  -- the words before run r, and all of them
  abbrev before : ℕ → List ℕ
  before r = times r (run_of f c salt) (words_of (block_words f) block)

  abbrev words : List ℕ
  words = expand_of f block c salt

  -- run r starts at this place
  before_length : (r : ℕ) → length (before r) ≡ block_words f * (r + 1)
  before_length r =
      let a = adds_length (adds_all (run_of f c salt) (block_words f) run_adds (words_of (block_words f) block) r) in
      let l = words_length (block_words f) block in
      omega arith

  -- the block is their front, and so is what run r leaves
  block_front : Adds (block_words f * runs f) (words_of (block_words f) block) words
  unfolding expand_of
  block_front = adds_all (run_of f c salt) (block_words f) run_adds (words_of (block_words f) block) (runs f)

  run_step : (r : ℕ) → r < runs f → Adds (block_words f * (runs f - (r + 1))) (run_of f c salt r (before r)) words
  unfolding expand_of
  run_step r h = adds_step (run_of f c salt) (block_words f) run_adds (words_of (block_words f) block) r (runs f) h

  -- group k of a nonlinear run, and word k of a linear one, stand behind what was there before them
  group_behind : (r k : ℕ) → r < runs f → r % 2 ≡ 0 → k < block_words f / 4
      → Adds (4 * (block_words f / 4 - (k + 1)) + block_words f * (runs f - (r + 1))) (groups k (before r) ++ group k (groups k (before r))) words
  group_behind r k h e b = adds_both (groups_step (before r) k (block_words f / 4) b) (rw (run_even f c salt r (before r) e) at (run_step r h))

  single_behind : (r k : ℕ) → r < runs f → (r % 2 ≡ 0 → ⊥) → k < block_words f
      → Adds (1 * (block_words f - (k + 1)) + block_words f * (runs f - (r + 1))) (singles k (before r) ++ single (singles k (before r))) words
  single_behind r k h e b = adds_both (singles_step (before r) k (block_words f) b) (rw (run_odd f c salt r (before r) e) at (run_step r h))

  groups_length : (r k i : ℕ) → i ≡ block_words f * (r + 1) + 4 * k → length (groups k (before r)) ≡ i
  groups_length r k i at = let l = adds_length (groups_add (before r) k) in let s = before_length r in omega arith

  singles_length : (r k i : ℕ) → i ≡ block_words f * (r + 1) + k → length (singles k (before r)) ≡ i
  singles_length r k i at = let l = adds_length (singles_add (before r) k) in let s = before_length r in omega arith

  -- The list at every step is the front of what it comes to: after r runs, and then after k groups or k linear words.
  pub runs_front : (r : ℕ) → r ≤ runs f → take (block_words f * (r + 1)) words ≡ before r
  unfolding expand_of
  runs_front r h =
      let e : r + (runs f - r) ≡ runs f = omega arith in
      let a = adds_more (run_of f c salt) (block_words f) run_adds (words_of (block_words f) block) r (runs f - r) in
      adds_front (rw e at a) (block_words f * (r + 1)) (before_length r)

  pub groups_front : (r k i : ℕ) → r < runs f → r % 2 ≡ 0 → k < block_words f / 4 → i ≡ block_words f * (r + 1) + 4 * k → take i words ≡ groups k (before r)
  groups_front r k i h e b at = adds_front (adds_both (group_adds k (groups k (before r))) (group_behind r k h e b)) i (groups_length r k i at)

  pub singles_front : (r k i : ℕ) → r < runs f → (r % 2 ≡ 0 → ⊥) → k < block_words f → i ≡ block_words f * (r + 1) + k → take i words ≡ singles k (before r)
  singles_front r k i h e b at = adds_front (adds_both (single_adds k (singles k (before r))) (single_behind r k h e b)) i (singles_length r k i at)

  -- group k of a nonlinear run
  group_at : (r k i : ℕ) → r < runs f → r % 2 ≡ 0 → k < block_words f / 4 → i ≡ block_words f * (r + 1) + 4 * k
      → four_at words i ≡ nonlinear_from (four_at words (i - block_words f)) (four_at words (i - 4)) (four_at salt (4 * (k % salt_quads f))) (counts_of (places f c) i)
  group_at r k i h e b at =
      let p = groups k (before r) in
      let a = group_behind r k h e b in
      let low = (numbers f).low in
      let n = groups_length r k i at in
      added_four p (group k p) a i n (group_length k p)
      ∙ group_is (adds_both (group_adds k p) a) i n (block_words f) (places f c) (four_at salt (4 * (k % salt_quads f))) (omega arith) (omega arith)

  -- word k of a linear run
  single_at : (r k i : ℕ) → r < runs f → (r % 2 ≡ 0 → ⊥) → k < block_words f → i ≡ block_words f * (r + 1) + k
      → get_or words i 0 ≡ bit_xor (get_or words (i - block_words f) 0) (get_or words (i - near_distance f) 0)
  single_at r k i h e b at =
      let p = singles k (before r) in
      let a = single_behind r k h e b in
      let m = numbers f in
      let n = singles_length r k i at in
      rw add-zero at (added_at p (single p) a i n 0 (omega arith))
      ∙ linear_is (adds_both (single_adds k p) a) i n (block_words f) (near_distance f) (omega arith) (omega arith) m.near (omega arith)

-- ---- the small family's words, four at a time
-- the number before an odd one is even, and before an even one odd
odd_before : (x : ℕ) → x % 2 ≡ 1 → (x - 1) % 2 ≡ 0
odd_before x h = omega arith

even_before : (x : ℕ) → 0 < x → (x % 2 ≡ 1 → ⊥) → (x - 1) % 2 ≡ 0 → ⊥
even_before x p h e = omega arith

module _ (block : List ℕ) (c : Counter) (salt : List ℕ) where
  -- the first sixteen are the block's
  pub block_words_lem : (i : ℕ) → i + 4 ≤ 16
      → four_at (expand_of Small block c salt) i ≡ word_at block i ∷ word_at block (i + 1) ∷ word_at block (i + 2) ∷ word_at block (i + 3) ∷ []
  block_words_lem i h = let l = words_length 16 block in four_read (block_front Small block c salt) i (omega arith) ∙ words_four 16 block i h

  -- a group of a nonlinear run
  pub nonlinear_words : (i : ℕ) → 16 ≤ i → i + 4 ≤ 144 → i % 4 ≡ 0 → i / 16 % 2 ≡ 1
      → four_at (expand_of Small block c salt) i
      ≡ nonlinear_from (four_at (expand_of Small block c salt) (i - 16)) (four_at (expand_of Small block c salt) (i - 4)) (four_at salt (i % 8)) (counts_of (places Small c) i)
  nonlinear_words i h k e o =
      let s : 4 * (i % 16 / 4 % 2) ≡ i % 8 = omega arith in
      rw s at (group_at Small block c salt (i / 16 - 1) (i % 16 / 4) i (omega arith) (odd_before (i / 16) o) (omega arith) (omega arith))

  -- a word of a linear run, and four of them
  linear_word : (i : ℕ) → 16 ≤ i → i + 4 ≤ 144 → i % 4 ≡ 0 → (i / 16 % 2 ≡ 1 → ⊥) → (t a b : ℕ) → t < 4 → a + 16 ≡ i + t → b + 3 ≡ i + t
      → get_or (expand_of Small block c salt) (i + t) 0 ≡ bit_xor (get_or (expand_of Small block c salt) a 0) (get_or (expand_of Small block c salt) b 0)
  linear_word i h k e o t a b l p q =
      let far : i + t - 16 ≡ a = omega arith in
      let near : i + t - 3 ≡ b = omega arith in
      let odd = even_before (i / 16) (omega arith) o in
      rw (far, near) at (single_at Small block c salt (i / 16 - 1) (i % 16 + t) (i + t) (omega arith) odd (omega arith) (omega arith))

  pub linear_words : (i : ℕ) → 16 ≤ i → i + 4 ≤ 144 → i % 4 ≡ 0 → (i / 16 % 2 ≡ 1 → ⊥)
      → four_at (expand_of Small block c salt) i ≡ linear_from (four_at (expand_of Small block c salt) (i - 16)) (four_at (expand_of Small block c salt) (i - 4))
  unfolding four_at linear_from
  linear_words i h k e o =
      let word = linear_word i h k e o in
      rw (
        word 3 (i - 16 + 3) i (omega arith) (omega arith) (omega arith),
        word 2 (i - 16 + 2) (i - 4 + 3) (omega arith) (omega arith) (omega arith),
        word 1 (i - 16 + 1) (i - 4 + 2) (omega arith) (omega arith) (omega arith),
        rw add-zero at (word 0 (i - 16) (i - 4 + 1) (omega arith) (omega arith) (omega arith)),
      )
