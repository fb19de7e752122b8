-- A number read from its high byte down, and words read one after the other.
use mathlib.Core.Path.{◌≡◌, refl, ap}
use mathlib.Core.List.{List, [], ◌∷◌, ◌++◌}
use Prim.Native.Nat.{ℕ, zero, suc, ◌+◌, ◌-◌, ◌*◌, ◌^◌, ◌≤◌, ◌<◌}
use native.Mathlib.Omega.{arith}
use native.Mathlib.Nat.{pow-le-pow_right, lt_of_lt_of_le}
use native.Mathlib.Numerals.{add-one}
use lib.ListN.{length, get_or, set}
use Rattle.fields.specs.Fields.{number_in}
use Rattle.state.specs.Bytes.{fill}
use Rattle.loading.specs.Reading.{words_in}
use Rattle.fields.proofs.Numbers.{bytes, number_small}
use Rattle.state.proofs.Filling.{fill_put}

-- one byte more, in front of those read
pub number_more : (l : List ℕ) (at count i : ℕ) → i < count
    → number_in (count - i) l (at + i) ≡ 256 * number_in (count - (i + 1)) l (at + (i + 1)) + get_or l (at + i) 0
unfolding number_in
number_more l at count i h =
    let p : count - i ≡ suc (count - (i + 1)) = omega arith in
    let q : at + i + 1 ≡ at + (i + 1) = omega arith in
    rw (p, q) (omega arith)

-- fewer than eight bytes leave room for one more
pub number_room : (l : List ℕ) → bytes l → (i at : ℕ) → i < 8 → number_in i l at < 2 ^ 56
number_room l b i at h =
    let less : i ≤ 7 = omega arith in
    let most : 256 ^ i ≤ 256 ^ 7 = pow-le-pow_right (omega arith) less in
    lt_of_lt_of_le (number_small l b i at) most

pub words_length : (n : ℕ) (l : List ℕ) (i : ℕ) → length (words_in n l i) ≡ n
unfolding words_in
words_length zero l i = refl
words_length (suc n) l i = ap suc (words_length n l (i + 4))

words_snoc : (n : ℕ) (l : List ℕ) (i : ℕ) → words_in (suc n) l i ≡ words_in n l i ++ (number_in 4 l (i + 4 * n) ∷ [])
unfolding words_in
words_snoc zero l i =
    let e : i + 4 * 0 ≡ i = omega arith in
    rw e
words_snoc (suc n) l i =
    let e : i + 4 + 4 * n ≡ i + 4 * suc n = omega arith in
    ap (λ (r : List ℕ). number_in 4 l i ∷ r) (rw e at (words_snoc n l (i + 4)))

-- a word stored behind those read
pub word_stored : (l : List ℕ) (at j : ℕ) → j < 16 → {chain : List ℕ} {w : ℕ} → chain ≡ fill 16 (words_in j l at) → w ≡ number_in 4 l (at + 4 * j)
    → set chain j w ≡ fill 16 (words_in (j + 1) l at)
word_stored l at j h e p =
    let n = words_length j l at in
    rw (e, p, add-one, words_snoc j l at) (rw n at (fill_put 16 (words_in j l at) (number_in 4 l (at + 4 * j)) (omega (arith, n))))
