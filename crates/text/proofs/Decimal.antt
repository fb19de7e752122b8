-- The fewest decimal digits that hold a number are its digits without leading zeros.
use mathlib.Core.Path.{◌≡◌, ap}
use mathlib.Core.List.{List, [], ◌∷◌, ◌++◌}
use Prim.Native.Nat.{ℕ, zero, suc, ◌+◌, ◌-◌, ◌/◌, ◌%◌, ◌^◌, ◌≤◌, ◌<◌}
use native.Mathlib.Nat.{not-suc-le-zero, le_trans}
use native.Mathlib.Omega.{arith}
use borrow.Author.Tests.{eq-eqb, ne_eqb, lt-ltb}
use Rattle.io.specs.Digits.{last_digits, IsDigitCount}
use Rattle.text.specs.Digits.{decimal_in, decimal_of}

ten_pos : (r : ℕ) → 0 < 10 ^ r
ten_pos zero = omega arith
ten_pos (suc r) = omega (arith, ten_pos r)

in_places : (r k n : ℕ) → r ≤ k → n < 10 ^ suc r → (0 < r → 10 ^ r ≤ n) → last_digits 10 (suc r) n ≡ decimal_in (suc k) n
unfolding decimal_in
in_places zero k n h g f = rw (eq-eqb (n / 10) 0 (omega arith), lt-ltb (n % 10) 10 (omega arith))
in_places (suc r) zero n h g f = absurd (not-suc-le-zero h)
in_places (suc r) (suc k) n h g f =
    let p : 10 ^ r ≤ n / 10 = omega (arith, f (omega arith)) in
    let e : n / 10 ≡ 0 → ⊥ = λ z. omega (arith, ten_pos r) in
    rw (ne_eqb (n / 10) 0 e, lt-ltb (n % 10) 10 (omega arith))
    (ap (λ (l : List ℕ). l ++ ((48 + n % 10) ∷ [])) (in_places r k (n / 10) (omega arith) (omega arith) (λ _. p)))

below_ten : (r : ℕ) → r ≤ 10 ^ r
below_ten zero = omega arith
below_ten (suc r) = omega (arith, below_ten r, ten_pos r)

pub decimal_text : (n r : ℕ) → IsDigitCount 10 1 n r → last_digits 10 r n ≡ decimal_of n
unfolding decimal_of
decimal_text n zero f = absurd (not-suc-le-zero f.0)
decimal_text n (suc zero) f = in_places 0 n n (omega arith) f.1 (λ p. omega arith)
decimal_text n (suc (suc r)) f =
    let e : suc (suc r) - 1 ≡ suc r = omega arith in
    let p : 10 ^ suc r ≤ n = rw e at (f.2 (omega arith)) in
    in_places (suc r) n n (le_trans (below_ten (suc r)) p) f.1 (λ _. p)
