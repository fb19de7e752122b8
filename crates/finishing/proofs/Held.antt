-- The held block of a state: its bytes, and zeros.
use mathlib.Core.Path.{◌≡◌}
use mathlib.Core.Bool.{true}
use mathlib.Core.List.{List, [], ◌∷◌, ◌++◌, append-nil}
use Prim.Native.Nat.{ℕ, suc, ◌+◌, ◌%◌, ◌≤◌}
use native.Mathlib.Omega.{arith}
use native.Mathlib.Nat.{mod-lt}
use lib.ListN.{length, drop, replicate, length-append}
use lib.Seq.{sets, length-take-le, append_snoc}
use Rattle.family.specs.Family.{block_bytes}
use Rattle.state.specs.declared.State.{State}
use Rattle.state.specs.Bytes.{fill, all_zero}
use Rattle.finishing.specs.Finish.{held_of}
use Rattle.family.proofs.Sizes.{block_pos, block_max}
use Rattle.state.proofs.Filling.{fill_nil, fill_put, fill_zeros}

-- bytes behind xs
pub fill_puts : (k : ℕ) (ys xs : List ℕ) → length xs + length ys ≤ k → sets (fill k xs) (length xs) ys ≡ fill k (xs ++ ys)
fill_puts k [] xs h = rw append-nil
fill_puts k (y ∷ ys) xs h =
    let l : suc (length xs) ≡ length (xs ++ (y ∷ [])) = omega (arith, length-append xs (y ∷ [])) in
    rw (fill_put k xs y (omega arith), l, fill_puts k ys (xs ++ (y ∷ [])) (omega (arith, length-append xs (y ∷ []))), append_snoc)

-- bytes put into zeros
pub put_filled : (k : ℕ) (xs : List ℕ) → length xs ≤ k → {b : List ℕ} → b ≡ sets (replicate k 0) 0 xs → b ≡ fill k xs
put_filled k xs h e = rw (e, ← fill_nil k) (fill_puts k xs [] (omega arith))

module _ (s : State) (full : length s.held ≡ 128) where
  rest_max : s.covered.0 % block_bytes s.family ≤ 128
  rest_max = omega (arith, mod-lt s.covered.0 (block_pos s.family), block_max s.family)

  pub held_length : length (held_of s) ≡ s.covered.0 % block_bytes s.family
  unfolding held_of
  held_length = length-take-le (s.covered.0 % block_bytes s.family) s.held (omega (arith, rest_max))

  pub held_filled : all_zero (drop (s.covered.0 % block_bytes s.family) s.held) ≡ true → s.held ≡ fill 128 (held_of s)
  unfolding held_of
  held_filled zero = fill_zeros 128 (s.covered.0 % block_bytes s.family) s.held full rest_max zero
