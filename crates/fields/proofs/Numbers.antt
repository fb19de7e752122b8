-- Little-endian numbers: their bytes' length, how large they are, and that reading a number's bytes and spelling a number's bytes undo each other.
use mathlib.Core.Path.{◌≡◌, refl, ap, ap₂, ◌∙◌}
use mathlib.Core.List.{List, [], ◌∷◌, ◌++◌}
use Prim.Native.Nat.{ℕ, zero, suc, ◌+◌, ◌*◌, ◌/◌, ◌%◌, ◌^◌, ◌≤◌, ◌<◌}
use native.Mathlib.Omega.{arith}
use native.Mathlib.Nat.{pow-suc}
use native.Mathlib.Numerals.{add-one}
use lib.ListN.{length, get_or, take, drop, length-append, get_or-append}
use lib.Seq.{drop-cons, get_or-append-add}
use Rattle.fields.specs.Fields.{le, bytes_of, number_in, number_at}

-- every element is a byte
abbrev pub bytes : List ℕ → Type 0
bytes l = (i : ℕ) → get_or l i 0 < 256

pub le_length : (k n : ℕ) → length (le k n) ≡ k
unfolding le
le_length zero n = refl
le_length (suc k) n = ap suc (le_length k (n / 256))

pub number_small : (l : List ℕ) → bytes l → (k i : ℕ) → number_in k l i < 256 ^ k
unfolding number_in
number_small l b zero i = omega arith
number_small l b (suc k) i = omega (arith, b i, number_small l b k (i + 1), pow-suc 256 k)

-- a number of 2 bytes, as it was defined before numbers of any width
pub number_two : (l : List ℕ) (i : ℕ) → number_at l i ≡ get_or l i 0 + 256 * get_or l (i + 1) 0
unfolding number_in
number_two l i = omega arith

-- a number's bytes are those that it was read from
pub number_spelled : (l : List ℕ) → bytes l → (k i : ℕ) → i + k ≤ length l → le k (number_in k l i) ≡ take k (drop i l)
unfolding le number_in
number_spelled l b zero i h = refl
number_spelled l b (suc k) i h =
    let n = number_in k l (i + 1) in
    let low : (get_or l i 0 + 256 * n) % 256 ≡ get_or l i 0 = omega (arith, b i) in
    let high : (get_or l i 0 + 256 * n) / 256 ≡ n = omega (arith, b i) in
    rw (drop-cons l i 0 (omega arith), ← add-one i) (ap₂ (λ (x : ℕ) (r : List ℕ). x ∷ r) low (ap (le k) high ∙ number_spelled l b k (i + 1) (omega arith)))

-- a number behind xs
pub number_behind : (k : ℕ) (xs ys : List ℕ) (j : ℕ) → number_in k (xs ++ ys) (length xs + j) ≡ number_in k ys j
unfolding number_in
number_behind zero xs ys j = refl
number_behind (suc k) xs ys j =
    let e : length xs + j + 1 ≡ length xs + (j + 1) = omega arith in
    rw (get_or-append-add xs ys j 0, e, number_behind k xs ys (j + 1))

-- a number inside xs
pub number_inside : (k : ℕ) (xs ys : List ℕ) (i : ℕ) → i + k ≤ length xs → number_in k (xs ++ ys) i ≡ number_in k xs i
unfolding number_in
number_inside zero xs ys i h = refl
number_inside (suc k) xs ys i h = rw (get_or-append xs ys 0 i (omega arith), number_inside k xs ys (i + 1) (omega arith))

-- a number in front of ys
pub number_read : (k n : ℕ) → n < 256 ^ k → (ys : List ℕ) → number_in k (le k n ++ ys) 0 ≡ n
unfolding le number_in
number_read zero n h ys = omega arith
number_read (suc k) n h ys =
    let small : n / 256 < 256 ^ k = omega (arith, pow-suc 256 k) in
    let rest = number_behind k (n % 256 ∷ []) (le k (n / 256) ++ ys) 0 ∙ number_read k (n / 256) small ys in
    omega (arith, rest)

-- ---- the bytes of words
pub bytes_length : (ws : List ℕ) → length (bytes_of ws) ≡ 4 * length ws
unfolding bytes_of
bytes_length [] = refl
bytes_length (w ∷ ws) = omega (arith, length-append (le 4 w) (bytes_of ws), le_length 4 w, bytes_length ws)
