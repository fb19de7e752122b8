-- Hex digits as text: they are ASCII, and they join as the bytes do.
use Rattle.std.proofs.Common.{◌≡◌, refl, sym, ℕ, zero, suc, ◌<◌, ◌/◌, ◌%◌, List, [], ◌∷◌, ◌++◌, append_assoc, arith}
use Rattle.std.specs.Str.{IsAscii, IsUtf8}
use Rattle.std.proofs.lemmas.Str.{IsUtf8-from_ascii}
use Rattle.text.specs.Digits.{digit, hex_in, hex_of, lower}

digit_small : (d : ℕ) → d < 16 → digit lower d < 128
unfolding digit
digit_small d h = grind arith

cons_ascii : (x : ℕ) (xs : List ℕ) → x < 128 → IsAscii xs → IsAscii (x ∷ xs)
cons_ascii x xs h g zero = h
cons_ascii x xs h g (suc i) = g i

hex_ascii : (xs : List ℕ) → IsAscii (hex_of xs)
unfolding hex_of hex_in
hex_ascii [] = λ i. omega arith
hex_ascii (b ∷ bs) =
    let low : IsAscii (digit lower (b % 16) ∷ hex_of bs) = cons_ascii _ (hex_of bs) (digit_small (b % 16) (omega arith)) (hex_ascii bs) in
    cons_ascii _ (digit lower (b % 16) ∷ hex_of bs) (digit_small (b / 16 % 16) (omega arith)) low

-- the digits of any bytes
pub hex_utf8 : (xs : List ℕ) → IsUtf8 (hex_of xs)
hex_utf8 xs = IsUtf8-from_ascii (hex_of xs) (hex_ascii xs)

-- the digits of the bytes of two parts
pub hex_append : (xs ys : List ℕ) → hex_of (xs ++ ys) ≡ hex_of xs ++ hex_of ys
unfolding hex_of
hex_append [] ys = refl
hex_append (x ∷ xs) ys = rw (hex_append xs ys) (sym (append_assoc (hex_in lower 2 x) (hex_of xs) (hex_of ys)))
