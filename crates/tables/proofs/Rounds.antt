-- The round over the tables is the AES round: ⊕ goes byte by byte, so four entries and the subkey's word, xored, are a column of the next state.
use mathlib.Core.Path.{◌≡◌, ◌∙◌, sym, ap, ap₂}
use mathlib.Core.List.{List, [], ◌∷◌}
use Prim.Native.Nat.{ℕ, ◌+◌, ◌*◌, ◌/◌, ◌%◌, ◌^◌, ◌<◌}
use native.Mathlib.Nat.{zero-add}
use native.Mathlib.Omega.{arith}
use lib.Dec.{ltb, ltb→lt}
use lib.ListN.{get_or}
use lib.Bits.{bit_xor, xor_lt, xor_block, xor_comm, xor_zero_r}
use Rattle.sbox.specs.Sbox.{sbox_of}
use Rattle.sbox.proofs.Table.{at}
use Rattle.aes.specs.Field.{mul}
use Rattle.aes.specs.Round.{four, coefficient, mix_byte, sub_bytes, shift_rows, mix_columns, add_round_key, aes_round}
use Rattle.aes.proofs.Bytes.{sbox_byte, mul_byte}
use Rattle.aes.proofs.Columns.{four_equal}
use Rattle.words.specs.Words.{from_bytes, column_of, from_column, xor4, round_of, zero4}
use Rattle.tables.specs.Tables.{entry_of, round_tables, column_by, round_by}
use Rattle.tables.proofs.Listed.{table_entry}

-- w is the word of the column a, b, c, d, of which b, c and d are bytes
record Packs (w a b c d : ℕ) : Type 0 where
  word : w ≡ from_bytes d c b a
  second : b < 256
  third : c < 256
  fourth : d < 256

-- the same word, in blocks of a byte
nested : (a b c d : ℕ) → from_bytes d c b a ≡ ((a * 256 + b) * 256 + c) * 256 + d
unfolding from_bytes
nested a b c d = omega arith

xor_word : (a b c d a' b' c' d' : ℕ) → b < 256 → c < 256 → d < 256 → b' < 256 → c' < 256 → d' < 256
    → bit_xor (from_bytes d c b a) (from_bytes d' c' b' a') ≡ from_bytes (bit_xor d d') (bit_xor c c') (bit_xor b b') (bit_xor a a')
xor_word a b c d a' b' c' d' hb hc hd hb' hc' hd' =
    ap₂ bit_xor (nested a b c d) (nested a' b' c' d')
    ∙ xor_block 8 ((a * 256 + b) * 256 + c) ((a' * 256 + b') * 256 + c') d d' hd hd'
    ∙ ap (λ (n : ℕ). n * 256 + bit_xor d d')
    (xor_block 8 (a * 256 + b) (a' * 256 + b') c c' hc hc' ∙ ap (λ (n : ℕ). n * 256 + bit_xor c c') (xor_block 8 a a' b b' hb hb'))
    ∙ sym (nested (bit_xor a a') (bit_xor b b') (bit_xor c c') (bit_xor d d'))

packs_xor : {w a b c d w' a' b' c' d' : ℕ} → Packs w a b c d → Packs w' a' b' c' d'
    → Packs (bit_xor w w') (bit_xor a a') (bit_xor b b') (bit_xor c c') (bit_xor d d')
packs_xor {w} {a} {b} {c} {d} {w'} {a'} {b'} {c'} {d'} s t =
    record {
      word =
          ap₂ bit_xor s.word t.word
          ∙ xor_word a b c d a' b' c' d' s.second s.third s.fourth t.second t.third t.fourth;
      second = xor_lt 8 b b' s.second t.second;
      third = xor_lt 8 c c' s.third t.third;
      fourth = xor_lt 8 d d' s.fourth t.fourth;
    }

packs_key : (k : ℕ) → k < 2 ^ 32 → Packs k (k / 16777216 % 256) (k / 65536 % 256) (k / 256 % 256) (k % 256)
unfolding from_bytes
packs_key k h =
    let low : k / 256 ≡ k / 65536 * 256 + k / 256 % 256 = omega arith in
    let high : k / 65536 ≡ k / 16777216 * 256 + k / 65536 % 256 = omega arith in
    let top : k / 16777216 % 256 ≡ k / 16777216 = omega arith in
    record { word = omega (arith, low, high, top); second = omega arith; third = omega arith; fourth = omega arith }

packs_entry : (r x : ℕ) {w : ℕ} → w ≡ entry_of r x
    → Packs w (mul (coefficient 0 r) (sbox_of x)) (mul (coefficient 1 r) (sbox_of x)) (mul (coefficient 2 r) (sbox_of x)) (mul (coefficient 3 r) (sbox_of x))
unfolding entry_of from_column
packs_entry r x {w} e =
    let s = sbox_byte x in
    record {
      word = e;
      second = mul_byte (coefficient 1 r) (sbox_of x) s;
      third = mul_byte (coefficient 2 r) (sbox_of x) s;
      fourth = mul_byte (coefficient 3 r) (sbox_of x) s;
    }

-- the column of the next state that the bytes a, b, c and d of its rows give, under the subkey's word
mixed_word : ℕ → ℕ → ℕ → ℕ → ℕ → ℕ
mixed_word a b c d key =
    let s = sbox_of a ∷ sbox_of b ∷ sbox_of c ∷ sbox_of d ∷ [] in
    from_column (four (λ r. bit_xor (mix_byte r s) (get_or (column_of key) r 0)))

column_word : (a b c d key : ℕ) {p q r s : ℕ} → p ≡ entry_of 0 a → q ≡ entry_of 1 b → r ≡ entry_of 2 c → s ≡ entry_of 3 d
    → key < 2 ^ 32 → bit_xor (bit_xor (bit_xor (bit_xor p q) r) s) key ≡ mixed_word a b c d key
unfolding mixed_word from_column column_of
column_word a b c d key e f g h hk =
    (packs_xor
    (packs_xor (packs_xor (packs_xor (packs_entry 0 a e) (packs_entry 1 b f)) (packs_entry 2 c g)) (packs_entry 3 d h))
    (packs_key key hk)).word

column_tables : (a b c d key : ℕ) → key < 2 ^ 32
    → column_by round_tables a b c d key ≡ mixed_word (a / 16777216 % 256) (b / 65536 % 256) (c / 256 % 256) (d % 256) key
unfolding column_by
column_tables a b c d key hk =
    column_word (a / 16777216 % 256) (b / 65536 % 256) (c / 256 % 256) (d % 256) key
    (ap (λ (n : ℕ). get_or round_tables n 0) (sym (zero-add (a / 16777216 % 256))) ∙ table_entry 0 (a / 16777216 % 256) (omega arith) (omega arith))
    (table_entry 1 (b / 65536 % 256) (omega arith) (omega arith))
    (table_entry 2 (c / 256 % 256) (omega arith) (omega arith))
    (table_entry 3 (d % 256) (omega arith) (omega arith))
    hk

-- the round over the tables, on every state and subkey
pub round_tables_lem : (x key : List ℕ) → ((j : ℕ) → j < 4 → get_or key j 0 < 2 ^ 32) → round_by round_tables x key ≡ round_of x key
unfolding round_by round_of aes_round add_round_key mix_columns shift_rows sub_bytes mixed_word column_of
round_tables_lem x key h =
    let w : ℕ → ℕ = λ j. get_or x j 0 in
    four_equal
    (column_tables (w 0) (w 1) (w 2) (w 3) (get_or key 0 0) (h 0 (omega arith)))
    (column_tables (w 1) (w 2) (w 3) (w 0) (get_or key 1 0) (h 1 (omega arith)))
    (column_tables (w 2) (w 3) (w 0) (w 1) (get_or key 2 0) (h 2 (omega arith)))
    (column_tables (w 3) (w 0) (w 1) (w 2) (get_or key 3 0) (h 3 (omega arith)))

-- The subkey is xored last, over any tables.
column_key : (t : List ℕ) (a b c d key : ℕ) → column_by t a b c d key ≡ bit_xor (column_by t a b c d 0) key
unfolding column_by
column_key t a b c d key = rw xor_zero_r

by_key : (t x key : List ℕ) → round_by t x key ≡ xor4 (round_by t x zero4) key
unfolding round_by xor4
by_key t x key =
    let w : ℕ → ℕ = λ j. get_or x j 0 in
    four_equal
    (column_key t (w 0) (w 1) (w 2) (w 3) (get_or key 0 0))
    (column_key t (w 1) (w 2) (w 3) (w 0) (get_or key 1 0))
    (column_key t (w 2) (w 3) (w 0) (w 1) (get_or key 2 0))
    (column_key t (w 3) (w 0) (w 1) (w 2) (get_or key 3 0))

zero_lt : (j : ℕ) → j < 4 → get_or zero4 j 0 < 2 ^ 32
zero_lt j h = ltb→lt (get_or zero4 j 0) (2 ^ 32) (at (λ k y. ltb y (2 ^ 32)) zero4 tt j h)

pub round_key : (x key : List ℕ) → ((j : ℕ) → j < 4 → get_or key j 0 < 2 ^ 32) → round_of x key ≡ xor4 (round_of x zero4) key
round_key x key h = sym (round_tables_lem x key h) ∙ by_key round_tables x key ∙ ap (λ (l : List ℕ). xor4 l key) (round_tables_lem x zero4 zero_lt)

pub round_last : (x l : List ℕ) → ((j : ℕ) → j < 4 → get_or l j 0 < 2 ^ 32) → round_of x l ≡ xor4 l (round_of x zero4)
unfolding xor4
round_last x l h =
    let r : ℕ → ℕ = λ j. get_or (round_of x zero4) j 0 in
    let swap : (j : ℕ) → bit_xor (r j) (get_or l j 0) ≡ bit_xor (get_or l j 0) (r j) = λ j. xor_comm (r j) (get_or l j 0) in
    round_key x l h ∙ four_equal (swap 0) (swap 1) (swap 2) (swap 3)
