-- Text put piece by piece is the whole text put.
use mathlib.Core.Path.{◌≡◌, refl, ap, ◌∙◌}
use mathlib.Core.List.{List, [], ◌++◌}
use Prim.Native.Nat.{ℕ, suc, ◌+◌, ◌≤◌}
use Rattle.std.proofs.Common.{append-nil}
use native.Mathlib.Omega.{arith}
use lib.ListN.{length, take}
use lib.Seq.{take_all}
use native.Mathlib.Decide.{dec_lt}
use Rattle.std.proofs.lemmas.List.{take-append-le, length-take, length-take-le}
use Rattle.std.proofs.Math.Seq.{take-append-add}
use Rattle.records.specs.Records.{joined}
use Rattle.printout.specs.Page.{kept}
use Rattle.printout.specs.Printout.{register_line, register_lines}

-- a text as it is
pub all_kept : (xs : List ℕ) → length xs ≤ 2048 → kept xs ≡ xs
unfolding kept
all_kept xs h = take_all 2048 xs h

-- what a page left off, it would leave off again
pub kept_more : (xs ys : List ℕ) → kept (kept xs ++ ys) ≡ kept (xs ++ ys)
unfolding kept
kept_more xs ys = elim (dec_lt 2048 (length xs)) [
  | no h ↦ rw (take_all 2048 xs (omega arith))
  | yes h ↦
      let full : length (take 2048 xs) ≡ 2048 = length-take-le 2048 xs (omega arith) in
      rw (take-append-le 2048 (take 2048 xs) ys (omega arith), take-append-le 2048 xs ys (omega arith), take_all 2048 (take 2048 xs) (omega arith))
]

-- the bytes that there is room for
module _ (page xs : List ℕ) (room : ℕ) (h : room + length page ≡ 2048) where
  pub fits : length page + length (take room xs) ≤ 2048
  fits = omega (arith, length-take room xs)

  pub fitted : page ++ take room xs ≡ kept (page ++ xs)
  unfolding kept
  fitted = let e : length page + room ≡ 2048 = omega arith in rw (← e, take-append-add page xs room)

-- the lines of no register, and those of the registers before with one more
module _ (records : List ℕ) where
  pub no_lines : (xs : List ℕ) → kept (kept xs ++ register_lines records 0) ≡ kept xs
  unfolding joined
  no_lines xs = kept_more xs [] ∙ ap kept (append-nil xs)

  pub lines_more : (r : ℕ) → register_lines records (r + 1) ≡ register_lines records r ++ register_line records r
  unfolding joined
  lines_more r = let e : r + 1 ≡ suc r = omega arith in rw e refl
