-- The round's functions give bytes: each cell of a state after a round under a key of bytes.
use mathlib.Core.List.{List, [], ◌∷◌}
use Prim.Native.Nat.{ℕ, zero, suc, ◌+◌, ◌%◌, ◌<◌}
use native.Mathlib.Omega.{arith}
use lib.ListN.{get_or}
use lib.Bits.{xor_lt}
use Rattle.aes.specs.Field.{mul}
use Rattle.aes.specs.Round.{cell, cells_of, matrix, mix_byte, sub_bytes, shift_rows, mix_columns, add_round_key, aes_round}
use Rattle.aes.proofs.Bytes.{sbox_byte, mul_byte}

-- ---- every place of a list, those past its end too
pub four_all : {A : Type 0} (P : A → Type 0) {a b c d z : A} → P a → P b → P c → P d → P z → (i : ℕ) → P (get_or (a ∷ b ∷ c ∷ d ∷ []) i z)
four_all P pa pb pc pd pz zero = pa
four_all P pa pb pc pd pz (suc zero) = pb
four_all P pa pb pc pd pz (suc (suc zero)) = pc
four_all P pa pb pc pd pz (suc (suc (suc zero))) = pd
four_all P pa pb pc pd pz (suc (suc (suc (suc i)))) = pz

-- ---- states
-- each cell is a byte
abbrev Bytes : List (List ℕ) → Type 0
Bytes s = (r c : ℕ) → cell s r c < 256

state_bytes : (f : ℕ → ℕ → ℕ) → ((r c : ℕ) → f r c < 256) → Bytes (cells_of f)
state_bytes f h r c = four_all (λ a. get_or a r 0 < 256) (column 0) (column 1) (column 2) (column 3) (omega arith) c
  where
    column : (c : ℕ) → get_or (f 0 c ∷ f 1 c ∷ f 2 c ∷ f 3 c ∷ []) r 0 < 256
    column c = four_all (λ x. x < 256) (h 0 c) (h 1 c) (h 2 c) (h 3 c) (omega arith) r

mix_byte_lem : (r : ℕ) (a : List ℕ) → ((k : ℕ) → get_or a k 0 < 256) → mix_byte r a < 256
mix_byte_lem r a h = xor_lt 8 _ _ (xor_lt 8 _ _ (xor_lt 8 _ _ (product 0) (product 1)) (product 2)) (product 3)
  where
    product : (k : ℕ) → mul (cell matrix k r) (get_or a k 0) < 256
    product k = mul_byte (cell matrix k r) (get_or a k 0) (h k)

pub round_byte : (s k : List (List ℕ)) → ((r c : ℕ) → cell k r c < 256) → (r c : ℕ) → cell (aes_round s k) r c < 256
unfolding sub_bytes shift_rows mix_columns add_round_key aes_round
round_byte s k h =
    let sub : Bytes (sub_bytes s) = state_bytes _ (λ r c. sbox_byte (cell s r c)) in
    let shift : Bytes (shift_rows (sub_bytes s)) = state_bytes _ (λ r c. sub r ((c + r) % 4)) in
    let mix : Bytes (mix_columns (shift_rows (sub_bytes s))) = state_bytes _ (λ r c. mix_byte_lem r (get_or (shift_rows (sub_bytes s)) c []) (λ k. shift k c)) in
    state_bytes _ (λ r c. xor_lt 8 _ _ (mix r c) (h r c))
