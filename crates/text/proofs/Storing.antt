-- The steps of the loop that stores hex digits, and what the test before it says.
use mathlib.Core.Path.{◌≡◌, refl, ap, ◌∙◌}
use mathlib.Core.Bool.{true}
use mathlib.Core.List.{List, [], ◌∷◌, ◌++◌, append_assoc}
use Prim.Native.Nat.{ℕ, zero, suc, ◌+◌, ◌*◌, ◌/◌, ◌%◌, ◌-◌, ◌≤◌, ◌<◌}
use native.Mathlib.Omega.{arith}
use lib.Dec.{leb}
use native.Mathlib.Numerals.{add-one}
use Rattle.std.proofs.lemmas.List.{drop-set}
use lib.ListN.{length, get_or, take, drop, set, drop_of_length-le}
use lib.Seq.{sets, drop-cons, sets-eq, take_at}
use borrow.Author.Tests.{le-leb}
use Rattle.text.specs.Place.{placed, place_after}
use Rattle.text.specs.Digits.{digit, hex_in, hex_of, upper}

-- where the text fits
module _ (out : List ℕ) (at : ℕ) (xs : List ℕ) where
  pub place : leb (at + length xs) (length out) ≡ true
      → (at + length xs ≡ place_after (length out) at xs) × (sets out at xs ≡ placed out at xs)
  unfolding placed place_after
  place h = (rw h, rw h)

-- the text that was put at the start of a buffer with room for it
pub digits_there : (out xs : List ℕ) → length xs ≤ length out → take (place_after (length out) 0 xs) (placed out 0 xs) ≡ xs
unfolding place_after placed
digits_there out xs h =
    let fits : 0 + length xs ≤ length out = omega (arith, h) in
    rw (le-leb (0 + length xs) (length out) fits, sets-eq xs out 0 fits) (take_at xs (drop (0 + length xs) out) (0 + length xs) (omega arith))

-- two digits a byte
pub hex_length : (xs : List ℕ) → length (hex_of xs) ≡ 2 * length xs
unfolding hex_of hex_in
hex_length [] = refl
hex_length (x ∷ xs) = omega (arith, hex_length xs)

pub hex_step : (b xs : List ℕ) (at i : ℕ) → i < length xs
    → sets b (at + 2 * i) (hex_of (drop i xs)) ≡ sets (sets b (at + 2 * i) (hex_of (get_or xs i 0 ∷ []))) (at + 2 * (i + 1)) (hex_of (drop (i + 1) xs))
unfolding hex_of hex_in
hex_step b xs at i h =
    let p : suc (suc (at + 2 * i)) ≡ at + 2 * (i + 1) = omega arith in
    let q : suc i ≡ i + 1 = omega arith in
    rw (drop-cons xs i 0 h, ← p, ← q)

pub hex_end : (b xs : List ℕ) (at i : ℕ) → length xs ≤ i → sets b (at + 2 * i) (hex_of (drop i xs)) ≡ b
unfolding hex_of
hex_end b xs at i h = rw drop_of_length-le

pub hex_placed : (out : List ℕ) (at : ℕ) (xs : List ℕ) → leb (at + 2 * length xs) (length out) ≡ true
    → (at + 2 * length xs ≡ place_after (length out) at (hex_of xs)) × (sets out at (hex_of xs) ≡ placed out at (hex_of xs))
hex_placed out at xs h = let p = place out at (hex_of xs) (rw (hex_length xs) h) in (rw (hex_length xs) at p.0, p.1)

-- what one text does, another that is equal to it does
pub same_text : (out : List ℕ) (at : ℕ) {xs ys : List ℕ} → xs ≡ ys → {r : ℕ} {b : List ℕ} → (r ≡ place_after (length out) at xs) × (b ≡ placed out at xs)
    → (r ≡ place_after (length out) at ys) × (b ≡ placed out at ys)
same_text out at e h = (h.0 ∙ ap (λ (l : List ℕ). place_after (length out) at l) e, h.1 ∙ ap (λ (l : List ℕ). placed out at l) e)

-- one more digit of a word, before those that are filled in
pub word_step : (xs : List ℕ) (i rest d : ℕ) → 0 < i → i ≤ length xs → d ≡ digit upper (rest % 16)
    → hex_in upper i rest ++ drop i xs ≡ hex_in upper (i - 1) (rest / 16) ++ drop (i - 1) (set xs (i - 1) d)
unfolding hex_in
word_step xs zero rest d p h e = absurd (omega (arith, p))
word_step xs (suc k) rest d p h e =
    let z : suc k - 1 ≡ k = omega arith in
    rw (z, e, drop-set xs k (digit upper (rest % 16)) (omega (arith, h)), add-one k, append_assoc)
