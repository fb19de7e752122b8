-- No message's list of (counter, block) opens another's: what a list stands for can be read from its first blocks, whatever follows.
use mathlib.Core.Path.{◌≡◌, refl, ap, sym, ◌∙◌}
use mathlib.Core.Bool.{true, cond}
use mathlib.Core.List.{List, [], ◌∷◌, ◌++◌, map-append, append_assoc, append-nil}
use Prim.Native.Nat.{ℕ, zero, suc, ◌+◌, ◌-◌, ◌*◌, ◌/◌, ◌%◌, ◌≤◌, ◌<◌}
use native.Mathlib.Omega.{arith}
use lib.Dec.{eqb, leb}
use lib.ListN.{length, get_or, take, drop, length-append, take-append-drop}
use lib.Seq.{take-add, take_at, drop_at, get_or_at}
use borrow.Author.Tests.{le-leb, lt-leb, eq-eqb, ne_eqb}
use Rattle.family.specs.declared.Family.{Family}
use Rattle.family.proofs.Sizes.{limit_place}
use Rattle.family.specs.Family.{block_bytes, length_bytes, pad_limit, length_place}
use Rattle.fields.specs.Fields.{le}
use Rattle.state.specs.Bytes.{fill}
use Rattle.bits.specs.declared.LastBits.{LastBits}
use Rattle.bits.specs.Bits.{weight, last_fits, marked}
use Rattle.bits.specs.Message.{Message, message_of, whole, bit_length}
use Rattle.bits.proofs.Fitting.{at_most_7}
use Rattle.finishing.specs.Blocks.{whole_blocks, last_block, last_blocks, blocks_of}
use Rattle.state.specs.State.{bit_limit, allowed}
use Rattle.fields.proofs.Numbers.{le_length}
use Rattle.state.proofs.Filling.{fill_length}
use Rattle.finishing.proofs.Blocking.{rest_small, rest_split}
use Rattle.finishing.proofs.Endings.{last_cases}
use Rattle.finishing.proofs.Answers.{m_max}
use Rattle.counter_lists.specs.Lists.{handed, Opens}
use Rattle.counter_lists.proofs.Counters.{numbered, handed_numbered}

-- m, in the last two bytes of a last block
m_of : Family → List ℕ → ℕ
m_of f block =
    let l = drop (length_place f + length_bytes f) block in
    get_or l 0 0 + 256 * get_or l 1 0

m_read : (f : Family) (m n : ℕ) (xs : List ℕ) → m < 65536 → length xs ≤ length_place f → m_of f (last_block f m n xs) ≡ m
unfolding m_of last_block le
m_read f m n xs hm h =
    let u = le (length_bytes f) n in
    let e : length (fill (length_place f) xs ++ u) ≡ length_place f + length_bytes f =
    omega (arith, length-append (fill (length_place f) xs) u, fill_length (length_place f) xs h, le_length (length_bytes f) n) in
    rw (← append_assoc, drop_at (fill (length_place f) xs ++ u) (le 2 m) (length_place f + length_bytes f) e) (omega arith)

-- the bytes before the last bits and the 1 bit, and the byte that holds these
before : (k r w : ℕ) (rest z : List ℕ) → length rest ≡ r → take r (fill k (rest ++ (w ∷ [])) ++ z) ≡ rest
unfolding fill
before k r w rest z e = simp append_assoc (take_at rest _ r e)

behind : (k r w : ℕ) (rest z : List ℕ) → length rest ≡ r → get_or (fill k (rest ++ (w ∷ [])) ++ z) r 0 ≡ w
unfolding fill
behind k r w rest z e = simp append_assoc (get_or_at rest w _ 0 r e)

first : List (ℕ × List ℕ) → List ℕ
first [] = []
first (x ∷ items) = x.1

-- c last bits behind r bytes of a block: its byte there without the 1 bit
last_in : ℕ → ℕ → List ℕ → LastBits
last_in r c block = record { byte = get_or block r 0 - weight (c + 1); count = c }

last_in_lem : (r : ℕ) (last : LastBits) (block : List ℕ) → get_or block r 0 ≡ marked last → last_in r last.count block ≡ last
unfolding last_in marked
last_in_lem r last block e =
    let b : get_or block r 0 - weight (last.count + 1) ≡ last.byte = omega arith in
    λ i. record { byte = b i; count = last.count }

-- m and the message that a list stands for, after d bytes: a block is whole where its counter says so, else the counter tells how many bytes and bits are left
read : Family → ℕ → List (ℕ × List ℕ) → ℕ × Message
read f d [] = (0, whole [])
read f d (x ∷ items) =
    let r = x.0 / 8 - d in
    let c = x.0 % 8 in
    let next = read f (d + block_bytes f) items in
    cond (eqb x.0 (8 * (d + block_bytes f)))
    (next.0, message_of (x.1 ++ next.1.bytes) next.1.last)
    (m_of f (cond (leb (8 * r + c) (pad_limit f)) x.1 (first items)), message_of (take r x.1) (last_in r c x.1))

-- what a list stands for, behind bytes
after : List ℕ → ℕ × Message → ℕ × Message
after xs told = (told.0, message_of (xs ++ told.1.bytes) told.1.last)

read_whole : (f : Family) (n d : ℕ) (xs : List ℕ) (l : List (ℕ × List ℕ))
    → read f d (whole_blocks n (block_bytes f) d xs ++ l) ≡ after (take (n * block_bytes f) xs) (read f (d + n * block_bytes f) l)
unfolding read whole_blocks after
read_whole f zero d xs l =
    let z : 0 * block_bytes f ≡ 0 = omega arith in
    let e : d + 0 ≡ d = omega arith in
    rw (z, e)
read_whole f (suc n) d xs l =
    let b = block_bytes f in
    let e : suc n * b ≡ b + n * b = omega arith in
    let g : d + (b + n * b) ≡ d + b + n * b = omega arith in
    rw (eq-eqb (8 * (d + b)) (8 * (d + b)) refl, read_whole f n (d + b) (drop b xs) l, e, g, take-add, append_assoc)

-- the counter of the first block of an end tells its bytes and its last bits
record Told (d r c n : ℕ) : Type 0 where
  rest : n / 8 - d ≡ r
  bits : n % 8 ≡ c
  most : n ≤ 8 * (d + r) + c

told : (d r c : ℕ) → c ≤ 7 → Told d r c (cond (eqb (8 * r + c) 0) 0 (8 * d + (8 * r + c)))
told d zero zero h = record { rest = omega arith; bits = refl; most = omega arith }
told d zero (suc c) h = rw (ne_eqb (8 * 0 + suc c) 0 (λ e. omega arith)) (record { rest = omega arith; bits = omega arith; most = omega arith })
told d (suc r) c h = rw (ne_eqb (8 * suc r + c) 0 (λ e. omega arith)) (record { rest = omega arith; bits = omega arith; most = omega arith })

read_end : (f : Family) (d r c n : ℕ) (block : List ℕ) (items : List (ℕ × List ℕ)) → Told d r c n → r < block_bytes f → c ≤ 7
    → read f d ((n, block) ∷ items) ≡ (m_of f (cond (leb (8 * r + c) (pad_limit f)) block (first items)), message_of (take r block) (last_in r c block))
unfolding read
read_end f d r c n block items t h g = rw (ne_eqb n (8 * (d + block_bytes f)) (λ e. omega (arith, t.most)), t.rest, t.bits)

module _ (f : Family) (m : ℕ) (hm : m < 65536) (last : LastBits) (few : last.count ≤ 7) where
  -- the message of a block that holds rest, its last bits and the 1 bit
  ends_in : (k : ℕ) (rest z : List ℕ) → message_of (take (length rest) (fill k (rest ++ (marked last ∷ [])) ++ z)) (last_in (length rest) last.count (fill k (rest ++ (marked last ∷ [])) ++ z)) ≡ message_of rest last
  ends_in k rest z =
      let block = fill k (rest ++ (marked last ∷ [])) ++ z in
      λ i. message_of (before k (length rest) (marked last) rest z refl i) (last_in_lem (length rest) last block (behind k (length rest) (marked last) rest z refl) i)

  read_last : (d : ℕ) (rest : List ℕ) (more : List (ℕ × List ℕ)) → length rest < block_bytes f
      → read f d (last_blocks f m (8 * d + bit_length (message_of rest last)) (message_of rest last) ++ more) ≡ (m, message_of rest last)
  unfolding first last_block
  read_last d rest more h =
      let r = length rest in
      let c = last.count in
      let n = 8 * d + (8 * r + c) in
      let xs = rest ++ (marked last ∷ []) in
      last_cases (λ (l : List (ℕ × List ℕ)). read f d (l ++ more) ≡ (m, message_of rest last)) f m n (message_of rest last)
      (λ g. read_end f d r c _ (last_block f m n xs) more (told d r c few) h few
      ∙ rw (le-leb (8 * r + c) (pad_limit f) g, m_read f m n xs hm (omega (arith, length-append rest (marked last ∷ []), limit_place f))) (ap (λ (x : Message). (m, x)) (ends_in (length_place f) rest _)))
      (λ g. read_end f d r c n (fill (block_bytes f) xs) ((0, last_block f m n []) ∷ more) (record { rest = omega arith; bits = omega arith; most = omega arith }) h few
      ∙ rw (lt-leb (8 * r + c) (pad_limit f) g, m_read f m n [] hm (omega arith)) (ap (λ (x : Message). (m, x)) (rw append-nil at (ends_in (block_bytes f) rest []))))

  read_message : (xs : List ℕ) (more : List (ℕ × List ℕ)) → read f 0 (blocks_of f m (message_of xs last) ++ more) ≡ (m, message_of xs last)
  unfolding blocks_of after
  read_message xs more =
      let b = block_bytes f in
      let n = length xs / b in
      let d = drop (n * b) xs in
      let bits = bit_length (message_of xs last) in
      let e : 8 * (0 + n * b) + bit_length (message_of d last) ≡ bits = omega (arith, rest_split b xs) in
      let w : read f (0 + n * b) (last_blocks f m bits (message_of d last) ++ more) ≡ (m, message_of d last) = rw e at (read_last (0 + n * b) d more (rest_small f xs)) in
      rw (append_assoc, read_whole f n 0 xs (last_blocks f m bits (message_of d last) ++ more), w, take-append-drop)

-- up to the limit it is read from what compression is handed
read_handed : (f : Family) (m : ℕ) (x : Message) → m < 65536 → last_fits x.last ≡ true → bit_length x ≤ bit_limit
    → (more : List (List ℕ × List ℕ)) → read f 0 (numbered (handed f m x ++ more)) ≡ (m, x)
read_handed f m x hm fits h more =
    rw (map-append, handed_numbered f m x h) (read_message f m hm x.last (at_most_7 x.last fits) x.bytes (numbered more))

-- A list that opens another is of the same message and digest length.
opens_same : (f : Family) (m m' : ℕ) (x y : Message) → allowed m ≡ true → allowed m' ≡ true → last_fits x.last ≡ true → last_fits y.last ≡ true
    → bit_length x ≤ bit_limit → bit_length y ≤ bit_limit → Opens (handed f m x) (handed f m' y) → (m ≡ m') × (x ≡ y)
opens_same f m m' x y ok ok' fits fits' h h' o =
    let e : ◌≡◌ {A = ℕ × Message} (m, x) (m', y) =
    sym (read_handed f m x (omega (arith, m_max m ok)) fits h o.more) ∙ ap (λ (l : List (List ℕ × List ℕ)). read f 0 (numbered l)) (o.is ∙ sym (append-nil (handed f m' y)))
    ∙ read_handed f m' y (omega (arith, m_max m' ok')) fits' h' [] in
    (ap (λ (p : ℕ × Message). p.0) e, ap (λ (p : ℕ × Message). p.1) e)

-- Two digests of the same compression function that differ in message (a byte, a bit or its length) or digest length have different lists of (counter,
-- block), and neither list is the opening of the other. Whatever the salt: the lists do not depend on it.
pub lists_apart : (f : Family) (m m' : ℕ) (x y : Message) → allowed m ≡ true → allowed m' ≡ true → last_fits x.last ≡ true → last_fits y.last ≡ true
    → bit_length x ≤ bit_limit → bit_length y ≤ bit_limit → ((m ≡ m') × (x ≡ y) → ⊥)
    → (handed f m x ≡ handed f m' y → ⊥) × (Opens (handed f m x) (handed f m' y) → ⊥) × (Opens (handed f m' y) (handed f m x) → ⊥)
lists_apart f m m' x y ok ok' fits fits' h h' differ =
    let no : Opens (handed f m x) (handed f m' y) → ⊥ = λ o. differ (opens_same f m m' x y ok ok' fits fits' h h' o) in
    let same = opens_same f m' m y x ok' ok fits' fits h' h in
    (λ e. no (record { more = []; is = append-nil (handed f m x) ∙ e }), no, λ o. differ (sym (same o).0, sym (same o).1))
