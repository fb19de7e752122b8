-- The counters of a message's list: no two are equal, and each is told by its words.
use mathlib.Core.Path.{◌≡◌, refl, ap}
use mathlib.Core.Bool.{cond}
use mathlib.Core.List.{List, [], ◌∷◌, ◌++◌, map, map-map}
use mathlib.Core.Logic.{◌⊎◌, inl, inr}
use Prim.Native.Nat.{ℕ, zero, suc, ◌+◌, ◌*◌, ◌/◌, ◌^◌, ◌≤◌, ◌<◌}
use native.Mathlib.Omega.{arith}
use lib.Dec.{eqb}
use lib.ListN.{length, drop}
use borrow.Author.Tests.{ne_eqb}
use Rattle.family.specs.declared.Family.{Family}
use Rattle.family.specs.Family.{block_bytes}
use Rattle.family.proofs.Sizes.{block_pos}
use Rattle.counter.specs.Counter.{counter_of}
use Rattle.bits.specs.Message.{Message, message_of, bit_length}
use Rattle.finishing.specs.Blocks.{whole_blocks, last_blocks, blocks_of}
use Rattle.state.specs.State.{bit_limit}
use Rattle.finishing.proofs.Blocking.{rest_split}
use Rattle.finishing.proofs.Endings.{last_cases}
use Rattle.counter_lists.specs.Lists.{words_read, handed, absent, distinct}
use Rattle.counter_lists.proofs.Words.{number_read, words_tell}

-- counters above c, at most top and rising, but for a 0 at the very end
rising : ℕ → ℕ → List (ℕ × List ℕ) → Type 0
rising top c [] = Unit
rising top c (x ∷ xs) = ((c < x.0) × (x.0 ≤ top) × rising top x.0 xs) ⊎ ((x.0 ≡ 0) × (xs ≡ []))

abbrev counters_of : List (ℕ × List ℕ) → List ℕ
counters_of xs = map (λ x. x.0) xs

rising_absent : (top a c : ℕ) (xs : List (ℕ × List ℕ)) → 0 < a → a ≤ c → rising top c xs → absent a (counters_of xs)
unfolding rising absent
rising_absent top a c [] p h r = tt
rising_absent top a c (x ∷ xs) p h (inl r) = (λ e. omega (arith, r.0), rising_absent top a x.0 xs p (omega (arith, r.0)) r.2)
rising_absent top a c (x ∷ xs) p h (inr r) = (λ e. omega (arith, r.0), rw r.1 tt)

rising_distinct : (top c : ℕ) (xs : List (ℕ × List ℕ)) → rising top c xs → distinct (counters_of xs)
unfolding rising distinct absent
rising_distinct top c [] r = tt
rising_distinct top c (x ∷ xs) (inl r) = (rising_absent top x.0 x.0 xs (omega (arith, r.0)) (omega arith) r.2, rising_distinct top x.0 xs r.2)
rising_distinct top c (x ∷ xs) (inr r) = rw r.1 (tt, tt)

whole_rising : (top n b d : ℕ) (xs : List ℕ) (l : List (ℕ × List ℕ)) → 0 < b → 8 * (d + n * b) ≤ top → rising top (8 * (d + n * b)) l → rising top (8 * d) (whole_blocks n b d xs ++ l)
unfolding rising whole_blocks
whole_rising top zero b d xs l p h r =
    let e : d + 0 * b ≡ d = omega arith in
    rw e at r
whole_rising top (suc n) b d xs l p h r =
    let e : d + suc n * b ≡ d + b + n * b = omega arith in
    inl (omega arith, omega arith, whole_rising top n b (d + b) (drop b xs) l p (rw e at h) (rw e at r))

-- k bits of rest, d bits before
first_rising : (k d : ℕ) → rising (d + k) d ((cond (eqb k 0) 0 (d + k), []) ∷ [])
unfolding rising
first_rising zero d = inr (refl, refl)
first_rising (suc k) d = rw (ne_eqb (suc k) 0 (λ e. omega arith)) (inl (omega arith, omega arith, tt))

last_rising : (f : Family) (m d : ℕ) (rest : Message) → rising (d + bit_length rest) d (last_blocks f m (d + bit_length rest) rest)
unfolding rising
last_rising f m d rest = last_cases (rising (d + bit_length rest) d) f m (d + bit_length rest) rest
    (λ h. first_rising (bit_length rest) d)
    (λ h. inl (omega arith, omega arith, inr (refl, refl)))

message_rising : (f : Family) (m : ℕ) (x : Message) → rising (bit_length x) 0 (blocks_of f m x)
unfolding blocks_of
message_rising f m x =
    let b = block_bytes f in
    let xs = x.bytes in
    let n = length xs / b in
    let rest = message_of (drop (n * b) xs) x.last in
    let e : 8 * (0 + n * b) + bit_length rest ≡ bit_length x = omega (arith, rest_split b xs) in
    whole_rising (bit_length x) n b 0 xs _ (block_pos f) (omega arith) (rw e at (last_rising f m (8 * (0 + n * b)) rest))

-- what compression is handed, with the counter's number in place of its words
abbrev pub numbered : List (List ℕ × List ℕ) → List (ℕ × List ℕ)
numbered l = map (λ x. (number_read x.0, x.1)) l

rising_numbered : (f : Family) (top c : ℕ) (l : List (ℕ × List ℕ)) → top < 2 ^ 64 → rising top c l → numbered (map (λ x. (words_read f (counter_of x.0), x.1)) l) ≡ l
unfolding rising
rising_numbered f top c [] h r = refl
rising_numbered f top c (x ∷ l) h (inl r) = rw (words_tell f x.0 (omega (arith, r.1)), rising_numbered f top x.0 l h r.2)
rising_numbered f top c (x ∷ l) h (inr r) = rw (r.1, words_tell f x.0 (omega (arith, r.0)))

-- Up to the limit the words tell the numbers.
pub handed_numbered : (f : Family) (m : ℕ) (x : Message) → bit_length x ≤ bit_limit → numbered (handed f m x) ≡ blocks_of f m x
unfolding handed
handed_numbered f m x h = rising_numbered f (bit_length x) 0 (blocks_of f m x) (omega arith) (message_rising f m x)

-- What has distinct images is distinct.
module _ {A B : Type 0} (g : A → B) where
  absent_of : (a : A) (l : List A) → absent (g a) (map g l) → absent a l
  unfolding absent
  absent_of a [] h = tt
  absent_of a (x ∷ l) h = (λ e. h.0 (ap g e), absent_of a l h.1)

  distinct_of : (l : List A) → distinct (map g l) → distinct l
  unfolding distinct
  distinct_of [] h = tt
  distinct_of (x ∷ l) h = (absent_of x l h.0, distinct_of l h.1)

-- Within one digest no two compressions use the same counter.
pub counters_distinct : (f : Family) (m : ℕ) (x : Message) → bit_length x ≤ bit_limit → distinct (map (λ b. b.0) (handed f m x))
counters_distinct f m x h =
    let e = simp map-map at (ap counters_of (handed_numbered f m x h)) in
    distinct_of number_read _ (rw (map-map, e) (rising_distinct (bit_length x) 0 (blocks_of f m x) (message_rising f m x)))
