-- Lists of four.
use mathlib.Core.Path.{◌≡◌, refl, ◌∙◌}
use mathlib.Core.List.{List, [], ◌∷◌, map}
use Prim.Native.Nat.{ℕ, ◌+◌, ◌≤◌, ◌<◌}
use native.Mathlib.Omega.{arith}
use lib.ListN.{length, get_or, set, length-set}
use lib.Bits.{bit_xor}
use Rattle.aes.specs.Field.{xtime_of}
use Rattle.aes.specs.Round.{four, mix_byte}
use Rattle.aes.proofs.Each.{each, each_more, each_all}

-- four equal entries make equal lists
pub four_equal {ℓ} : {A : Type ℓ} {a b c d a' b' c' d' : A} → a ≡ a' → b ≡ b' → c ≡ c' → d ≡ d'
    → ◌≡◌ {A = List A} (a ∷ b ∷ c ∷ d ∷ []) (a' ∷ b' ∷ c' ∷ d' ∷ [])
four_equal p q r s = cc

-- a function put at each of four places
four_map : {A : Type 0} (d : A) (f : A → A) (xs : List A) → length xs ≡ 4 → map f xs ≡ four (λ r. f (get_or xs r d))
four_map d f [] h = absurd (omega arith)
four_map d f (x ∷ []) h = absurd (omega arith)
four_map d f (x ∷ y ∷ []) h = absurd (omega arith)
four_map d f (x ∷ y ∷ z ∷ []) h = absurd (omega arith)
four_map d f (x ∷ y ∷ z ∷ w ∷ []) h = refl
four_map d f (x ∷ y ∷ z ∷ w ∷ v ∷ xs) h = absurd (omega arith)

-- After r of n turns a function is put at the first r of n places: what the round's loops keep.
module _ {A : Type 0} (d : A) (f : A → A) where
  pub record Turned (n : ℕ) (xs ys : List A) (r : ℕ) : Type 0 where
    pub most : r ≤ n
    pub given : length xs ≡ n
    pub kept : length ys ≡ n
    pub is : ys ≡ each d f r xs

  pub turned_start : (n : ℕ) (xs : List A) → length xs ≡ n → Turned n xs xs 0
  turned_start n xs h = record { most = omega arith; given = h; kept = h; is = refl }

  module _ {n : ℕ} {xs ys : List A} {r : ℕ} (t : Turned n xs ys r) where
    pub turned_more : r < n → {y : A} → y ≡ f (get_or ys r d) → Turned n xs (set ys r y) (r + 1)
    turned_more h e = record {
      most = omega arith;
      given = t.given;
      kept = simp length-set t.kept;
      is = rw (e, t.is) (each_more d f r xs (omega (arith, t.given)));
    }

    pub turned_end : n ≤ r → ys ≡ map f xs
    turned_end h =
        let e : r ≡ length xs = omega (arith, t.most, t.given) in
        rw e at t.is ∙ each_all d f xs

  -- the four columns
  pub turned_four : {xs ys : List A} {r : ℕ} → Turned 4 xs ys r → 4 ≤ r → ys ≡ four (λ k. f (get_or xs k d))
  turned_four {xs} t h = turned_end t h ∙ four_map d f xs t.given

-- a column as the code mixes it, with the products by {02} named
pub mixed : (a : List ℕ) {x0 x1 x2 x3 : ℕ}
    → x0 ≡ xtime_of (get_or a 0 0) → x1 ≡ xtime_of (get_or a 1 0) → x2 ≡ xtime_of (get_or a 2 0) → x3 ≡ xtime_of (get_or a 3 0)
    → ◌≡◌ {A = List ℕ}
    (bit_xor (bit_xor (bit_xor x0 (bit_xor x1 (get_or a 1 0))) (get_or a 2 0)) (get_or a 3 0)
    ∷ bit_xor (bit_xor (bit_xor (get_or a 0 0) x1) (bit_xor x2 (get_or a 2 0))) (get_or a 3 0)
    ∷ bit_xor (bit_xor (bit_xor (get_or a 0 0) (get_or a 1 0)) x2) (bit_xor x3 (get_or a 3 0))
    ∷ bit_xor (bit_xor (bit_xor (bit_xor x0 (get_or a 0 0)) (get_or a 1 0)) (get_or a 2 0)) x3 ∷ [])
    (four (λ r. mix_byte r a))
mixed a p q r s = rw (p, q, r, s)
