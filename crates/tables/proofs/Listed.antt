-- A list of a function's values: as long as asked for, its entries, and a literal list as one.
use mathlib.Core.Path.{◌≡◌, refl, ◌∙◌, sym, ap}
use mathlib.Core.List.{List}
use Prim.Native.Nat.{ℕ, zero, suc, ◌+◌, ◌*◌, ◌/◌, ◌%◌, ◌<◌}
use native.Mathlib.Nat.{add-zero, zero-add, add-suc, suc-add, le_of_suc-le-suc, not-suc-le-zero}
use native.Mathlib.Omega.{arith}
use lib.Dec.{T, eqb}
use lib.ListN.{length, get_or}
use lib.Seq.{ext_get_or}
use Rattle.sbox.proofs.Table.{every, entry}
use Rattle.tables.specs.Tables.{entry_of, listed, round_tables}

listed_length : (f : ℕ → ℕ) (i n : ℕ) → length (listed f i n) ≡ n
listed_length f i zero = refl
listed_length f i (suc n) = ap suc (listed_length f (suc i) n)

pub listed_at : (f : ℕ → ℕ) (i n k : ℕ) → k < n → get_or (listed f i n) k 0 ≡ f (i + k)
listed_at f i zero k h = absurd (not-suc-le-zero h)
listed_at f i (suc n) zero h = ap f (sym (add-zero i))
listed_at f i (suc n) (suc k) h = listed_at f (suc i) n k (le_of_suc-le-suc h) ∙ ap f (suc-add i k ∙ sym (add-suc i k))

-- A literal list whose entries pass the test that antt computes is the function's list.
pub literal : (f : ℕ → ℕ) (xs : List ℕ) → T (every (λ k x. eqb x (f k)) 0 xs) → xs ≡ listed f 0 (length xs)
literal f xs t =
    ext_get_or 0 xs (listed f 0 (length xs)) (sym (listed_length f 0 (length xs)))
    (λ k h. entry f xs t k h ∙ sym (listed_at f 0 (length xs) k h ∙ ap f (zero-add k)))

-- the entry of row r's table for the byte x
pub table_entry : (r x : ℕ) → r < 4 → x < 256 → get_or round_tables (256 * r + x) 0 ≡ entry_of r x
unfolding round_tables
table_entry r x hr hx =
    let row : (256 * r + x) / 256 ≡ r = omega arith in
    let byte : (256 * r + x) % 256 ≡ x = omega arith in
    listed_at (λ k. entry_of (k / 256) (k % 256)) 0 1024 (256 * r + x) (omega arith) ∙ rw (zero-add (256 * r + x), row, byte)
