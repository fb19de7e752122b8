-- The last blocks as the code makes them.
use mathlib.Core.Path.{◌≡◌, ap, ◌∙◌}
use mathlib.Core.Bool.{Bool, true, false, cond}
use mathlib.Core.List.{List, [], ◌∷◌, ◌++◌, append_assoc}
use Prim.Native.Nat.{ℕ, ◌+◌, ◌-◌, ◌*◌, ◌%◌, ◌≤◌, ◌<◌}
use native.Mathlib.Omega.{arith}
use native.Mathlib.Nat.{mod-lt}
use lib.Dec.{eqb, leb}
use lib.ListN.{length, take, drop, set, replicate, length-append, length-replicate, replicate-append-replicate}
use lib.Seq.{sets, take_at}
use borrow.Author.Tests.{le-leb, lt-leb, leb-true, leb-false}
use Rattle.family.specs.declared.Family.{Family}
use Rattle.counter.specs.declared.Counter.{Counter}
use Rattle.family.specs.Family.{block_bytes, pad_limit, length_place, length_bytes}
use Rattle.counter.specs.Counter.{counter_of}
use Rattle.compress.specs.Compression.{compress_of}
use Rattle.compress.proofs.Compressed.{compress_block}
use Rattle.bits.specs.declared.LastBits.{LastBits}
use Rattle.bits.specs.Bits.{marked}
use Rattle.state.specs.declared.State.{State}
use Rattle.fields.specs.Fields.{le}
use Rattle.state.specs.Bytes.{fill, all_zero}
use Rattle.finishing.specs.Blocks.{last_block, last_blocks, chain_over}
use Rattle.finishing.specs.Finish.{held_of, closing}
use Rattle.family.proofs.Sizes.{block_pos, block_max, limit_place, sizes}
use Rattle.fields.proofs.Numbers.{le_length}
use Rattle.state.proofs.Filling.{fill_length, fill_put, fill_nil}
use Rattle.finishing.proofs.Held.{held_length, held_filled}
use Rattle.finishing.proofs.Stores.{sets_take}

-- zeros cut off
fill_cut : (p k : ℕ) (xs : List ℕ) → length xs ≤ p → p ≤ k → take p (fill k xs) ≡ fill p xs
unfolding fill
fill_cut p k xs h g =
    let e : k - length xs ≡ (p - length xs) + (k - p) = omega arith in
    rw (e, ← replicate-append-replicate, ← append_assoc)
    (take_at (xs ++ replicate (p - length xs) 0) (replicate (k - p) 0) p (simp (length-append, length-replicate) (omega arith)))

-- a block of bytes and zeros with the numbers stored at its end is a last block
last_stored : (f : Family) (m bits : ℕ) (xs : List ℕ) → length xs ≤ length_place f
    → take (block_bytes f) (sets (fill 128 xs) (length_place f) (le (length_bytes f) bits ++ le 2 m)) ≡ last_block f m bits xs
unfolding last_block
last_stored f m bits xs h =
    let z = sizes f in
    let b = block_max f in
    let u = le (length_bytes f) bits in
    let p = length_place f in
    sets_take (fill 128 xs) p (u ++ le 2 m) (block_bytes f) (omega (arith, length-append u (le 2 m), le_length (length_bytes f) bits, le_length 2 m)) (omega (arith, fill_length 128 xs (omega arith)))
    ∙ ap (λ (l : List ℕ). l ++ (u ++ le 2 m)) (fill_cut p 128 xs h (omega arith))

module _ (s : State) (last : LastBits) (full : length s.held ≡ 128) (zero : all_zero (drop (s.covered.0 % block_bytes s.family) s.held) ≡ true) where
  abbrev f : Family
  f = s.family

  abbrev r : ℕ
  r = s.covered.0 % block_bytes f

  -- the bits of the message, and those of the rest
  abbrev bits : ℕ
  bits = 8 * s.covered.0 + last.count

  abbrev rest_bits : ℕ
  rest_bits = 8 * r + last.count

  abbrev xs : List ℕ
  xs = held_of s ++ (marked last ∷ [])

  below : r < block_bytes f
  below = mod-lt s.covered.0 (block_pos f)

  ended_length : length xs ≡ r + 1
  ended_length = omega (arith, length-append (held_of s) (marked last ∷ []), held_length s full)

  -- the block with the last bits and the 1 bit
  ended : set s.held r (marked last) ≡ fill 128 xs
  ended =
      ap (λ (l : List ℕ). set l r (marked last)) (held_filled s full zero)
      ∙ (rw (held_length s full) at (fill_put 128 (held_of s) (marked last) (omega (arith, held_length s full, below, block_max f))))

  one : rest_bits ≤ pad_limit f → closing s last ≡ (cond (eqb rest_bits 0) 0 bits, last_block f s.m bits xs) ∷ []
  unfolding closing last_blocks
  one h = rw (held_length s full, le-leb rest_bits (pad_limit f) h)

  two : pad_limit f < rest_bits → closing s last ≡ (bits, fill (block_bytes f) xs) ∷ (0, last_block f s.m bits []) ∷ []
  unfolding closing last_blocks
  two h = rw (held_length s full, lt-leb rest_bits (pad_limit f) h)

  -- in the code's terms
  module _ {rest n k : ℕ} (er : rest ≡ r) (en : n ≡ bits) (ek : k ≡ 8 * rest + last.count) {block : List ℕ}
      (eb : block ≡ set s.held rest (marked last)) {t : Bool} (et : t ≡ leb k (pad_limit f)) where
    known : k ≡ rest_bits
    known = ek ∙ rw er

    filled : block ≡ fill 128 xs
    filled = eb ∙ rw er ended

    pub close_one : t ≡ true → {padded done : List ℕ} {low : ℕ} {counter : Counter}
        → padded ≡ sets block (length_place f) (le (length_bytes f) n ++ le 2 s.m)
        → low ≡ cond (eqb k 0) 0 n → counter ≡ counter_of low → done ≡ compress_of f s.chain padded counter s.salt
        → (done ≡ chain_over f s.salt (closing s last) s.chain) × (1 ≡ length (closing s last))
    unfolding chain_over
    close_one h {padded = padded} {counter = counter} e1 e2 e3 e4 =
        let g : rest_bits ≤ pad_limit f = leb-true rest_bits (pad_limit f) (rw (et, known) at h) in
        let e = one g in
        (rw e (e4 ∙ rw (← compress_block f s.chain padded counter s.salt, e3, e2, known, e1, en, filled, last_stored f s.m bits xs (omega (arith, ended_length, limit_place f)))), rw e)

    pub close_two : t ≡ false → {next padded done : List ℕ} {c c₀ : Counter}
        → c ≡ counter_of n → next ≡ compress_of f s.chain block c s.salt
        → padded ≡ sets (replicate 128 0) (length_place f) (le (length_bytes f) n ++ le 2 s.m) → c₀ ≡ counter_of 0 → done ≡ compress_of f next padded c₀ s.salt
        → (done ≡ chain_over f s.salt (closing s last) s.chain) × (2 ≡ length (closing s last))
    unfolding chain_over
    close_two h {next} {padded} {c = c} {c₀} e1 e2 e3 e4 e5 =
        let g : pad_limit f < rest_bits = leb-false rest_bits (pad_limit f) (rw (et, known) at h) in
        let e = two g in
        let first : next ≡ compress_of f s.chain (fill (block_bytes f) xs) (counter_of bits) s.salt =
        e2 ∙ rw (← compress_block f s.chain block c s.salt, e1, en, filled, fill_cut (block_bytes f) 128 xs (omega (arith, ended_length, below)) (block_max f)) in
        let behind : take (block_bytes f) padded ≡ last_block f s.m bits [] =
        rw (e3, en, ← fill_nil 128) (last_stored f s.m bits [] (omega arith)) in
        (rw e (e5 ∙ rw (← compress_block f next padded c₀ s.salt, e4, behind, first)), rw e)
