-- Bytes spelled in hex: two digits a byte, the high one first, letters of either case.
use Rattle.std.specs.Prelude.{Result, Ok, Err, Bool, true, not, cond, ◌&&◌, List, [], ◌∷◌, ◌++◌, ℕ, zero, suc, ◌+◌, ◌*◌, ◌-◌, ◌/◌, ◌%◌, eqb, leb, ltb, length, drop, get_or}
use Rattle.hex_bytes.specs.declared.HexError.{HexError}
use Rattle.hex_bytes.specs.declared.HexError.TheVariants.{NotHex, NoRoom}

-- the value of a digit: 0 to 9, a to f, A to F; 16 for any other character
unfoldable pub digit_value : ℕ → ℕ
digit_value c =
    cond (leb 48 c && leb c 57) (c - 48)
    (cond (leb 97 c && leb c 102) (c - 87)
    (cond (leb 65 c && leb c 70) (c - 55) 16))

-- digits and nothing else
unfoldable pub digits : List ℕ → Bool
digits [] = true
digits (c ∷ cs) = ltb (digit_value c) 16 && digits cs

-- the bytes that the first n pairs of digits spell
unfoldable pub pairs : ℕ → List ℕ → List ℕ
pairs zero text = []
pairs (suc n) text = (16 * digit_value (get_or text 0 0) + digit_value (get_or text 1 0)) ∷ pairs n (drop 2 text)

-- whole pairs of digits
unfoldable pub is_hex : List ℕ → Bool
is_hex text = eqb (length text % 2) 0 && digits text

-- how many bytes are spelled, into a buffer of so many
unfoldable pub decode_of : List ℕ → ℕ → Result ℕ HexError
decode_of text room = cond (not (is_hex text)) (Err NotHex) (cond (ltb room (length text / 2)) (Err NoRoom) (Ok (length text / 2)))

-- the bytes at the buffer's front, and nothing where they are not hex or there is no room
unfoldable pub decode_buffer : List ℕ → List ℕ → List ℕ
decode_buffer text out =
    cond (not (is_hex text)) out (cond (ltb (length out) (length text / 2)) out (pairs (length text / 2) text ++ drop (length text / 2) out))
