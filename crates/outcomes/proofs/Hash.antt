-- Each public call of `sbox`, `aes`, `words`, `tables`, `family`, `counter`, `compress`, `expanded`, `chaining` and `starting` has only one outcome.
use mathlib.Core.Path.{◌≡◌}
use mathlib.Core.List.{List}
use Prim.Native.Nat.{ℕ, ◌+◌, ◌/◌}
use lib.ListN.{length, replicate}
use lib.Seq.{sets}
use Rattle.outcome.specs.Outcome.{OneOutcome}
use Rattle.outcome.proofs.Outcome.{one}
use Rattle.sbox.specs.Sbox.{sbox_of}
use Rattle.aes.specs.Round.{aes_round}
use Rattle.words.specs.Words.{from_bytes, word_at, four_at, xor4, round_of}
use Rattle.tables.specs.Tables.{round_tables, round_by}
use Rattle.family.specs.declared.Family.{Family}
use Rattle.family.specs.Family.{family_of, block_bytes}
use Rattle.counter.specs.declared.Counter.{Counter}
use Rattle.counter.specs.Counter.{number_of, counter_of}
use Rattle.compress.specs.Expansion.{entered_of}
use Rattle.compress.specs.Cipher.{small_cipher}
use Rattle.compress.specs.Compression.{small_output, compress_of}
use Rattle.compress.specs.Run.{run_over}
use Rattle.compress.specs.Window.{small_words, halves_in, halves_at}
use Rattle.startup.specs.Startup.{master_of, start_of}

-- `sub`
pub sub_one : (x : ℕ) → OneOutcome (λ (r : ℕ). r ≡ sbox_of x)
sub_one x = one (sbox_of x)

-- `round`
pub round_one : (state subkey : List (List ℕ)) → OneOutcome (λ (r : List (List ℕ)). r ≡ aes_round state subkey)
round_one state subkey = one (aes_round state subkey)

-- `word`
pub word_one : (b0 b1 b2 b3 : ℕ) → OneOutcome (λ (r : ℕ). r ≡ from_bytes b0 b1 b2 b3)
word_one b0 b1 b2 b3 = one (from_bytes b0 b1 b2 b3)

-- `word_of`
pub word_of_one : (bytes : List ℕ) → OneOutcome (λ (r : ℕ). r ≡ word_at bytes 0)
word_of_one bytes = one (word_at bytes 0)

-- `quad`, and what `put` leaves
pub quad_one : (w : List ℕ) → OneOutcome (λ (r : List ℕ). r ≡ four_at w 0)
quad_one w = one (four_at w 0)

pub put_one : (w x : List ℕ) → OneOutcome (λ (r : List ℕ). r ≡ sets w 0 x)
put_one w x = one (sets w 0 x)

-- `xored`
pub xored_one : (x y : List ℕ) → OneOutcome (λ (r : List ℕ). r ≡ xor4 x y)
xored_one x y = one (xor4 x y)

-- `aes_round`
pub aes_round_one : (x key : List ℕ) → OneOutcome (λ (r : List ℕ). r ≡ round_of x key)
aes_round_one x key = one (round_of x key)

-- `tables::lent`, `tables::all`, and `tables::round`
pub tables_one : OneOutcome (λ (r : List ℕ). r ≡ round_tables)
tables_one = one round_tables

pub round_by_one : (t x key : List ℕ) → OneOutcome (λ (r : List ℕ). r ≡ round_by t x key)
round_by_one t x key = one (round_by t x key)

-- `Family::of`
pub family_one : (m : ℕ) → OneOutcome (λ (r : Family). r ≡ family_of m)
family_one m = one (family_of m)

-- the family's numbers: `block_bytes` and the others, and of its saved forms `longest` and the places of the sections
pub number_one : (number : Family → ℕ) (f : Family) → OneOutcome (λ (r : ℕ). r ≡ number f)
number_one number f = one (number f)

-- `Counter::of`
pub of_one : (bits : ℕ) → OneOutcome (λ (r : Counter). r ≡ counter_of bits)
of_one bits = one (counter_of bits)

-- `Counter::advance`
pub advance_one : (c : Counter) (bits : ℕ) → OneOutcome (λ (r : Counter). r ≡ counter_of (number_of c + bits))
advance_one c bits = one (counter_of (number_of c + bits))

-- what `small` leaves, and `feed`
pub small_one : (block : List ℕ) (c : Counter) (salt h : List ℕ) → OneOutcome (λ (r : List ℕ). r ≡ halves_in (small_cipher (small_words block c salt) h) h)
small_one block c salt h = one (halves_in (small_cipher (small_words block c salt) h) h)

pub feed_one : (chain h : List ℕ) → OneOutcome (λ (r : List ℕ). r ≡ small_output chain (halves_at 0 h))
feed_one chain h = one (small_output chain (halves_at 0 h))

-- `entered`
pub entered_one : (f : Family) (c : Counter) (i : ℕ) (x : List ℕ) → OneOutcome (λ (r : List ℕ). r ≡ entered_of f c i x)
entered_one f c i x = one (entered_of f c i x)

-- what `block` leaves as the chain, and with the large family `large_by_bytes`
pub compress_one : (f : Family) (chain block : List ℕ) (c : Counter) (salt : List ℕ) → OneOutcome (λ (r : List ℕ). r ≡ compress_of f chain block c salt)
compress_one f chain block c salt = one (compress_of f chain block c salt)

-- what `start` leaves
pub start_one : (f : Family) (chain block : List ℕ) → OneOutcome (λ (r : List ℕ). r ≡ compress_of f chain block (counter_of 0) (replicate 64 0))
start_one f chain block = compress_one f chain block (counter_of 0) (replicate 64 0)

-- what `run_by_tables` leaves
pub run_one : (f : Family) (chain bytes : List ℕ) (c : Counter) (salt : List ℕ) → OneOutcome (λ (r : List ℕ). r ≡ run_over f salt (length bytes / block_bytes f) c bytes chain)
run_one f chain bytes c salt = one (run_over f salt (length bytes / block_bytes f) c bytes chain)

-- what `run_and_block_by_tables` leaves
pub run_block_one : (f : Family) (chain bytes : List ℕ) (first : Counter) (block : List ℕ) (c : Counter) (salt : List ℕ)
    → OneOutcome (λ (r : List ℕ). r ≡ compress_of f (run_over f salt (length bytes / block_bytes f) first bytes chain) block c salt)
run_block_one f chain bytes first block c salt = compress_one f (run_over f salt (length bytes / block_bytes f) first bytes chain) block c salt

-- `master_value`
pub master_one : (f : Family) → OneOutcome (λ (r : List ℕ). r ≡ master_of f)
master_one f = one (master_of f)

-- `starting_value`
pub starting_one : (f : Family) (m : ℕ) → OneOutcome (λ (r : List ℕ). r ≡ start_of f m)
starting_one f m = one (start_of f m)
