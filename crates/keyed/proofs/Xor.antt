-- Exclusive-or of lists: how long it is, its parts, and one byte more of it in a block.
use mathlib.Core.Path.{◌≡◌, refl, ap, ◌∙◌}
use mathlib.Core.List.{List, [], ◌∷◌, ◌++◌, append_assoc, append-nil}
use Prim.Native.Nat.{ℕ, zero, suc, ◌+◌, ◌≤◌, ◌<◌}
use native.Mathlib.Omega.{arith}
use native.Mathlib.Numerals.{add-one}
use lib.Bits.{bit_xor}
use lib.ListN.{length, take, drop, get_or, set, length-replicate, get_or-replicate, drop_of_length-le}
use lib.Seq.{take_all, take-suc, drop-cons, set_at, get_or_at, length-take-le}
use Rattle.keyed.specs.Hmac.{repeated, ◌⊕◌}

pub xor_length : (xs ys : List ℕ) → length xs ≤ length ys → length (xs ⊕ ys) ≡ length xs
unfolding ◌⊕◌
xor_length [] ys h = refl
xor_length (x ∷ xs) [] h = absurd (omega arith)
xor_length (x ∷ xs) (y ∷ ys) h = ap suc (xor_length xs ys (omega arith))

pub xor_take : (n : ℕ) (xs ys : List ℕ) → take n (xs ⊕ ys) ≡ take n xs ⊕ take n ys
unfolding ◌⊕◌
xor_take zero xs ys = refl
xor_take (suc n) [] ys = refl
xor_take (suc n) (x ∷ xs) [] = refl
xor_take (suc n) (x ∷ xs) (y ∷ ys) = ap (λ (l : List ℕ). bit_xor x y ∷ l) (xor_take n xs ys)

xor_at : (xs ys : List ℕ) (i : ℕ) → i < length xs → i < length ys → get_or (xs ⊕ ys) i 0 ≡ bit_xor (get_or xs i 0) (get_or ys i 0)
unfolding ◌⊕◌
xor_at [] ys i h g = absurd (omega arith)
xor_at (x ∷ xs) [] i h g = absurd (omega arith)
xor_at (x ∷ xs) (y ∷ ys) zero h g = refl
xor_at (x ∷ xs) (y ∷ ys) (suc i) h g = xor_at xs ys i (omega arith) (omega arith)

repeated_length : (n p : ℕ) → length (repeated n p) ≡ n
unfolding repeated
repeated_length n p = length-replicate n p

pub repeated_take : (n b p : ℕ) → b ≤ n → take b (repeated n p) ≡ repeated b p
unfolding repeated
repeated_take n zero p h = refl
repeated_take zero (suc b) p h = absurd (omega arith)
repeated_take (suc n) (suc b) p h = ap (λ (l : List ℕ). p ∷ l) (repeated_take n b p (omega arith))

repeated_at : (n p i : ℕ) → i < n → get_or (repeated n p) i 0 ≡ p
unfolding repeated
repeated_at n p i h = get_or-replicate n i p 0 h

module _ (d : List ℕ) (n p : ℕ) (full : length d ≡ n) where
  abbrev all : List ℕ
  all = d ⊕ repeated n p

  pub pad_length : length all ≡ n
  pad_length = xor_length d (repeated n p) (rw (repeated_length n p) (omega arith)) ∙ full

  -- the first j bytes xored, and then one more
  pub xor_next : (j : ℕ) → j < n
      → set (take j all ++ drop j d) j (bit_xor (get_or (take j all ++ drop j d) j 0) p) ≡ take (j + 1) all ++ drop (j + 1) d
  xor_next j h =
      let l : length (take j all) ≡ j = length-take-le j all (omega (arith, pad_length)) in
      let v : get_or all j 0 ≡ bit_xor (get_or d j 0) p = xor_at d (repeated n p) j (omega arith) (rw (repeated_length n p) h) ∙ rw (repeated_at n p j h) in
      rw (
        drop-cons d j 0 (omega arith),
        get_or_at (take j all) (get_or d j 0) (drop (suc j) d) 0 j l,
        set_at (take j all) (get_or d j 0) (drop (suc j) d) (bit_xor (get_or d j 0) p) j l,
        add-one j,
        take-suc all j 0 (omega (arith, pad_length)),
        append_assoc,
        v,
      )

  -- and all of them
  pub xor_all : take n all ++ drop n d ≡ all
  xor_all = rw (take_all n all (omega (arith, pad_length)), drop_of_length-le d {i = n} (omega arith)) (append-nil all)
