-- The bytes that pairs of digits spell: how many they are, each of them, and one more put behind them in a buffer.
use mathlib.Core.Path.{◌≡◌, refl, ap, ◌∙◌}
use mathlib.Core.Bool.{true}
use mathlib.Core.List.{List, [], ◌∷◌, ◌++◌, append_assoc}
use Prim.Native.Nat.{ℕ, zero, suc, ◌+◌, ◌*◌, ◌≤◌, ◌<◌}
use native.Mathlib.Omega.{arith}
use native.Mathlib.Decide.{dec_lt}
use native.Mathlib.Numerals.{add-one}
use lib.ListN.{length, drop, get_or, set, get_or-eq_default}
use lib.Seq.{drop-cons, get_or-drop, set_at}
use Rattle.hex_bytes.specs.Hex.{digit_value, digits, pairs}
use Rattle.hex_bytes.proofs.Digits.{pair_below}

pub pairs_length : (n : ℕ) (text : List ℕ) → length (pairs n text) ≡ n
unfolding pairs
pairs_length zero text = refl
pairs_length (suc n) text = ap suc (pairs_length n (drop 2 text))

-- the byte that pair i spells
abbrev pub spelled : List ℕ → ℕ → ℕ
spelled text i = 16 * digit_value (get_or text (2 * i) 0) + digit_value (get_or text (2 * i + 1) 0)

spelled_on : (text : List ℕ) (i : ℕ) → spelled (drop 2 text) i ≡ spelled text (suc i)
spelled_on text i =
    let p : 2 + 2 * i ≡ 2 * suc i = omega arith in
    let q : 2 + (2 * i + 1) ≡ 2 * suc i + 1 = omega arith in
    rw (get_or-drop 2 text (2 * i) 0, get_or-drop 2 text (2 * i + 1) 0, p, q)

pub pairs_at : (n : ℕ) (text : List ℕ) (i : ℕ) → i < n → get_or (pairs n text) i 0 ≡ spelled text i
unfolding pairs
pairs_at zero text i h = absurd (omega arith)
pairs_at (suc n) text zero h = refl
pairs_at (suc n) text (suc i) h = pairs_at n (drop 2 text) i (omega arith) ∙ spelled_on text i

-- one more pair
pairs_next : (n : ℕ) (text : List ℕ) → pairs (suc n) text ≡ pairs n text ++ (spelled text n ∷ [])
unfolding pairs
pairs_next zero text = refl
pairs_next (suc n) text = ap (λ (l : List ℕ). spelled text 0 ∷ l) (pairs_next n (drop 2 text) ∙ rw (spelled_on text n))

-- digits spell bytes
pub pairs_below : (n : ℕ) (text : List ℕ) → digits text ≡ true → 2 * n ≤ length text → (i : ℕ) → get_or (pairs n text) i 0 < 256
pairs_below n text d h i = elim (dec_lt i n) [
  | yes p ↦ rw (pairs_at n text i p) (omega (arith, pair_below text d i (omega arith)))
  | no p ↦ rw (get_or-eq_default (pairs n text) 0 {n = i} (omega (arith, pairs_length n text))) (omega arith)
]

-- the bytes of i pairs at the front, and then those of one more
pub put_next : (text out : List ℕ) (i b : ℕ) → i < length out → b ≡ spelled text i
    → set (pairs i text ++ drop i out) i b ≡ pairs (i + 1) text ++ drop (i + 1) out
put_next text out i b h e =
    rw (drop-cons out i 0 h, set_at (pairs i text) (get_or out i 0) (drop (suc i) out) b i (pairs_length i text), add-one i, pairs_next i text, append_assoc, e)
