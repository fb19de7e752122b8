-- The definitions give the seven values that the source prints, by computation: a compression each.
use mathlib.Core.Path.{◌≡◌, refl, ◌∙◌, ap}
use mathlib.Core.List.{List, ◌∷◌}
use Prim.Native.Nat.{ℕ, ◌/◌, ◌%◌}
use lib.ListN.{replicate}
use Rattle.sbox.specs.Sbox.{sbox_of, sbox_table}
use Rattle.aes.specs.Round.{sub_bytes, shift_rows, mix_columns, add_round_key, aes_round}
use Rattle.words.specs.Words.{times, four_at, xor4, column_of, from_column, from_bytes, words_of, word_at, round_of}
use Rattle.family.specs.declared.Family.{Family}
use Rattle.family.specs.declared.Family.TheVariants.{Small, Large}
use Rattle.counter.specs.Counter.{counter_of}
use Rattle.compress.specs.Expansion.{back, places, enters, taps_of, last_of, counts_of, group_of, nonlinear_run, linear_of, linear_run, run_of, expand_of}
use Rattle.compress.specs.Cipher.{halves_round, quarters_round, inner_of, small_cipher, large_cipher}
use Rattle.compress.specs.Compression.{small_output, large_output, compress_of}
use Rattle.startup.specs.Startup.{master_of, start_of}
use Rattle.startup.specs.Printed.{printed_master, iv160, iv224, iv256, iv384, iv512}

-- a start-up call: counter 0 and the zero salt
abbrev call : Family → List ℕ → List ℕ → List ℕ
call f chain block = compress_of f chain block (counter_of 0) (replicate 64 0)

abbrev from : Family → ℕ → List ℕ
from f m = call f (printed_master f) (m % 256 ∷ m / 256 ∷ replicate 126 0)

-- Two tables, since the check of one declaration may take so many steps and no more.
record SmallValues : Type 0 where
  master : call Small (replicate 16 0) (replicate 128 0) ≡ printed_master Small
  at160 : from Small 160 ≡ iv160
  at224 : from Small 224 ≡ iv224
  at256 : from Small 256 ≡ iv256

small_values : SmallValues
unfolding printed_master iv160 iv224 iv256 compress_of small_output small_cipher halves_round inner_of expand_of run_of nonlinear_run linear_run group_of linear_of taps_of last_of counts_of enters places back times four_at xor4 round_of column_of from_column from_bytes words_of word_at aes_round sub_bytes shift_rows mix_columns add_round_key sbox_of sbox_table counter_of
small_values = record {
  master = refl;
  at160 = refl;
  at224 = refl;
  at256 = refl;
}

record LargeValues : Type 0 where
  master : call Large (replicate 16 0) (replicate 128 0) ≡ printed_master Large
  at384 : from Large 384 ≡ iv384
  at512 : from Large 512 ≡ iv512

large_values : LargeValues
unfolding printed_master iv384 iv512 compress_of large_output large_cipher quarters_round inner_of expand_of run_of nonlinear_run linear_run group_of linear_of taps_of last_of counts_of enters places back times four_at xor4 round_of column_of from_column from_bytes words_of word_at aes_round sub_bytes shift_rows mix_columns add_round_key sbox_of sbox_table counter_of
large_values = record {
  master = refl;
  at384 = refl;
  at512 = refl;
}

pub master_printed : (f : Family) → master_of f ≡ printed_master f
unfolding master_of
master_printed Small = small_values.master
master_printed Large = large_values.master

started : (f : Family) (m : ℕ) (iv : List ℕ) → from f m ≡ iv → start_of f m ≡ iv
unfolding start_of
started f m iv e = ap (λ h. call f h (m % 256 ∷ m / 256 ∷ replicate 126 0)) (master_printed f) ∙ e

pub printed_160 : start_of Small 160 ≡ iv160
printed_160 = started Small 160 iv160 small_values.at160

pub printed_224 : start_of Small 224 ≡ iv224
printed_224 = started Small 224 iv224 small_values.at224

pub printed_256 : start_of Small 256 ≡ iv256
printed_256 = started Small 256 iv256 small_values.at256

pub printed_384 : start_of Large 384 ≡ iv384
printed_384 = started Large 384 iv384 large_values.at384

pub printed_512 : start_of Large 512 ≡ iv512
printed_512 = started Large 512 iv512 large_values.at512
