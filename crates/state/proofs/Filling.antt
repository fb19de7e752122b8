-- Zeros behind a list: fill, and the test for zeros.
use mathlib.Core.Path.{◌≡◌, refl, ap, ap₂, sym, ◌∙◌}
use mathlib.Core.Bool.{true}
use mathlib.Core.List.{List, [], ◌∷◌, ◌++◌}
use Prim.Native.Nat.{ℕ, zero, suc, ◌+◌, ◌-◌, ◌≤◌, ◌<◌}
use native.Mathlib.Omega.{arith}
use lib.Dec.{eqb}
use lib.ListN.{length, take, drop, set, replicate, length-append, length-take, length-drop, length-replicate, take-append-drop}
use lib.Seq.{set_at, take_at, drop-append-add, append_snoc}
use borrow.Author.Tests.{eqb-true}
use Rattle.answers.proofs.Tests.{and_left, and_right}
use Rattle.state.specs.Bytes.{fill, all_zero}

pub zero_list : (n : ℕ) → all_zero (replicate n 0) ≡ true
unfolding all_zero
zero_list zero = refl
zero_list (suc n) = zero_list n

zero_drop : (r n : ℕ) → all_zero (drop r (replicate n 0)) ≡ true
unfolding all_zero
zero_drop zero n = zero_list n
zero_drop (suc r) zero = refl
zero_drop (suc r) (suc n) = zero_drop r n

pub zeros : (xs : List ℕ) → all_zero xs ≡ true → xs ≡ replicate (length xs) 0
unfolding all_zero
zeros [] h = refl
zeros (x ∷ xs) h = ap₂ (λ (u : ℕ) (l : List ℕ). u ∷ l) (eqb-true x 0 (and_left (eqb x 0) (all_zero xs) h)) (zeros xs (and_right (eqb x 0) (all_zero xs) h))

module _ (k : ℕ) where
  pub fill_length : (xs : List ℕ) → length xs ≤ k → length (fill k xs) ≡ k
  unfolding fill
  fill_length xs h = simp (length-append, length-replicate) (omega arith)

  pub fill_nil : fill k [] ≡ replicate k 0
  unfolding fill
  fill_nil =
      let e : k - 0 ≡ k = omega arith in
      rw e

  -- a byte behind xs
  pub fill_put : (xs : List ℕ) (x : ℕ) → length xs < k → set (fill k xs) (length xs) x ≡ fill k (xs ++ (x ∷ []))
  unfolding fill
  fill_put xs x h =
      let e : k - length xs ≡ suc (k - length (xs ++ (x ∷ []))) = simp length-append (omega arith) in
      rw e (set_at xs 0 _ x (length xs) refl ∙ sym (append_snoc xs x _))

  pub fill_take : (xs : List ℕ) (b : ℕ) → length xs ≡ b → take b (fill k xs) ≡ xs
  unfolding fill
  fill_take xs b e = take_at xs _ b e

  -- zeros from r on: the list is filled from its first r
  pub fill_zeros : (r : ℕ) (xs : List ℕ) → length xs ≡ k → r ≤ k → all_zero (drop r xs) ≡ true → xs ≡ fill k (take r xs)
  unfolding fill
  fill_zeros r xs e h z =
      let n : length (drop r xs) ≡ k - length (take r xs) = simp (length-drop, length-take) (omega arith) in
      sym (take-append-drop r xs) ∙ ap (λ (l : List ℕ). take r xs ++ l) (rw n at (zeros (drop r xs) z))

  -- and a filled list has zeros behind its bytes
  pub zero_fill : (xs : List ℕ) (r : ℕ) → length xs ≤ r → all_zero (drop r (fill k xs)) ≡ true
  unfolding fill
  zero_fill xs r h =
      let e : r ≡ length xs + (r - length xs) = omega arith in
      rw (e, drop-append-add) (zero_drop (r - length xs) (k - length xs))
