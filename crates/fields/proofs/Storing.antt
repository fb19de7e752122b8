-- The steps of the loops that put numbers, bytes and words into a buffer, and bytes put one behind the other.
use mathlib.Core.Path.{◌≡◌, refl, ap, sym, ◌∙◌}
use mathlib.Core.List.{List, [], ◌∷◌, ◌++◌, append-nil, append_assoc}
use Prim.Native.Nat.{ℕ, suc, ◌+◌, ◌-◌, ◌/◌, ◌%◌, ◌≤◌, ◌<◌, min}
use native.Mathlib.Omega.{arith}
use native.Mathlib.Decide.{dec_lt}
use native.Mathlib.Nat.{zero-add}
use native.Mathlib.Numerals.{add-one}
use lib.ListN.{length, get_or, take, drop, set, drop_of_length-le, take-append-drop}
use lib.Seq.{sets, sets-eq, length-sets, length-take-le, take_all, drop-drop, set_out, set-set, set_comm, drop-cons}
use borrow.Rule.Slice.PartMut.{put_mid}
use Rattle.fields.specs.Fields.{le, bytes_of}
use Rattle.fields.proofs.Numbers.{le_length}

-- nothing is put past the end
pub sets_out : (l : List ℕ) (i : ℕ) (v : List ℕ) → length l ≤ i → sets l i v ≡ l
sets_out l i [] h = refl
sets_out l i (x ∷ v) h = rw (set_out l i x h) (sets_out l (suc i) v (omega arith))

module _ (out : List ℕ) (to : ℕ) where
  pub number_step : (left next value : ℕ) → left ≡ next + 1 → sets out to (le left value) ≡ sets (set out to (value % 256)) (to + 1) (le next (value / 256))
  unfolding le
  number_step left next value e =
      let d : left ≡ suc next = omega arith in
      rw add-one (ap (λ (k : ℕ). sets out to (le k value)) d)

  -- it is all put, or there is no more room
  pub number_end : (left value : ℕ) → (to < length out → left ≡ 0) → sets out to (le left value) ≡ out
  unfolding le
  number_end left value e = elim (dec_lt to (length out)) [
    | yes h ↦ rw (e h)
    | no h ↦ sets_out out to (le left value) (omega arith)
  ]

-- two stores, the second where the first ends
pub sets_sets : (l : List ℕ) (i : ℕ) (u v : List ℕ) → sets (sets l i u) (i + length u) v ≡ sets l i (u ++ v)
sets_sets l i [] v =
    let e : i + 0 ≡ i = omega arith in
    rw e
sets_sets l i (x ∷ u) v =
    let e : i + suc (length u) ≡ suc i + length u = omega arith in
    rw e (sets_sets (set l i x) (suc i) u v)

-- only as many bytes are put as there is room for
pub sets_room : (out : List ℕ) (at : ℕ) (bytes : List ℕ) (n : ℕ) → min (length bytes) (length out - at) ≤ n → sets out at (take n bytes) ≡ sets out at bytes
sets_room out at bytes n h = elim (dec_lt n (length bytes)) [
  | yes k ↦
      let part = take n bytes in
      sym (sets_out (sets out at part) (at + length part) (drop n bytes) (omega (arith, length-sets out at part, length-take-le n bytes (omega arith))))
      ∙ sets_sets out at part (drop n bytes)
      ∙ ap (sets out at) (take-append-drop n bytes)
  | no k ↦ ap (sets out at) (take_all n bytes (omega arith))
]

-- as many bytes copied as there are and as there is room for
pub put_room : (out : List ℕ) (at : ℕ) (bytes : List ℕ) {n k : ℕ} {part : List ℕ} → at < length out → n ≡ min (length bytes) (length out - at) → k ≡ n → part ≡ take n bytes
    → put_mid at k out part ≡ sets out at bytes
put_room out at bytes {n} h e d p =
    let size = length-take-le n bytes (omega arith) in
    rw (d, p, ← append_assoc)
    (ap (λ (l : List ℕ). take at out ++ take n bytes ++ l) (drop-drop n at out ∙ ap (λ (m : ℕ). drop (at + m) out) (sym size))
    ∙ sym (sets-eq (take n bytes) out at (omega (arith, size)))
    ∙ sets_room out at bytes n (omega arith))

-- what a second call leaves that puts bytes where those of the first end
pub put_behind : (l : List ℕ) (i j : ℕ) (u v : List ℕ) → j ≡ i + length u → {b c : List ℕ} → b ≡ sets l i u → c ≡ sets b j v → c ≡ sets l i (u ++ v)
put_behind l i j u v e p q = rw (q, p, e) (sets_sets l i u v)

-- a store and a byte in front of it
set_front : (l : List ℕ) (i j : ℕ) (u : List ℕ) (y : ℕ) → i < j → set (sets l j u) i y ≡ sets (set l i y) j u
set_front l i j [] y h = refl
set_front l i j (x ∷ u) y h = set_front (set l j x) i (suc j) u y (omega arith) ∙ rw (set_comm l j i x y (λ e. omega arith))

-- what is put over a store that is no longer replaces it
pub sets_over : (l : List ℕ) (i : ℕ) (u v : List ℕ) → length u ≤ length v → sets (sets l i u) i v ≡ sets l i v
sets_over l i [] v h = refl
sets_over l i (x ∷ u) [] h = absurd (omega arith)
sets_over l i (x ∷ u) (y ∷ v) h = rw (set_front (set l i x) i (suc i) u y (omega arith), set-set l i x y) (sets_over (set l i y) (suc i) u v (omega arith))

-- a word, and those behind it
pub words_step : (out : List ℕ) (to : ℕ) (words : List ℕ) (j : ℕ) → j < length words
    → sets out to (bytes_of (drop j words)) ≡ sets (sets out to (le 4 (get_or words j 0))) (to + 4) (bytes_of (drop (j + 1) words))
unfolding bytes_of
words_step out to words j h =
    let w = get_or words j 0 in
    rw (drop-cons words j 0 h, add-one j) (sym (rw (le_length 4 w) at (sets_sets out to (le 4 w) (bytes_of (drop (suc j) words)))))

pub words_end : (out : List ℕ) (to : ℕ) (words : List ℕ) (j : ℕ) → length words ≤ j → sets out to (bytes_of (drop j words)) ≡ out
unfolding bytes_of
words_end out to words j h = rw drop_of_length-le

-- bytes put at the front
pub sets_front : (l v : List ℕ) → length v ≤ length l → sets l 0 v ≡ v ++ drop (length v) l
sets_front l v h = rw zero-add at (sets-eq v l 0 (omega arith))

-- bytes that fill a buffer
pub sets_whole : (l v : List ℕ) → length v ≡ length l → sets l 0 v ≡ v
sets_whole l v e = sets_front l v (omega (arith, e)) ∙ rw (drop_of_length-le l {i = length v} (omega (arith, e)), append-nil)
