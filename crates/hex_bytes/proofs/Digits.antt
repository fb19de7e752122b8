-- The digits of a text one by one.
use mathlib.Core.Path.{◌≡◌, refl, ap}
use mathlib.Core.Bool.{Bool, true, ◌&&◌}
use mathlib.Core.List.{List, [], ◌∷◌}
use Prim.Native.Nat.{ℕ, zero, suc, ◌+◌, ◌*◌, ◌<◌}
use native.Mathlib.Omega.{arith}
use lib.Dec.{ltb}
use lib.ListN.{length, get_or}
use Rattle.std.specs.List.{list_all}
use borrow.Author.Tests.{ltb-true}
use Rattle.answers.proofs.Tests.{and_left, and_right}
use Rattle.hex_bytes.specs.Hex.{digit_value, digits}

-- every character is a digit
pub digits_all : (text : List ℕ) → list_all (λ c. ltb (digit_value c) 16) text ≡ digits text
unfolding digits
digits_all [] = refl
digits_all (c ∷ cs) = ap (λ (t : Bool). ltb (digit_value c) 16 && t) (digits_all cs)

-- each character of digits is one, and so are both of a pair
digit_at : (text : List ℕ) → digits text ≡ true → (i : ℕ) → i < length text → digit_value (get_or text i 0) < 16
unfolding digits
digit_at [] d i h = absurd (omega arith)
digit_at (c ∷ cs) d zero h = ltb-true (digit_value c) 16 (and_left (ltb (digit_value c) 16) (digits cs) d)
digit_at (c ∷ cs) d (suc i) h = digit_at cs (and_right (ltb (digit_value c) 16) (digits cs) d) i (omega arith)

pub pair_below : (text : List ℕ) → digits text ≡ true → (i : ℕ) → 2 * i + 1 < length text
    → (digit_value (get_or text (2 * i) 0) < 16) × (digit_value (get_or text (2 * i + 1) 0) < 16)
pair_below text d i h = (digit_at text d (2 * i) (omega arith), digit_at text d (2 * i + 1) h)
