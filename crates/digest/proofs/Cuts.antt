-- A state that takes in more bytes, in whatever pieces they come, and the state that all bytes so far give.
use mathlib.Core.Path.{◌≡◌, refl, ap, sym, ◌∙◌}
use mathlib.Core.Bool.{Bool, true, false, cond}
use mathlib.Core.List.{List, [], ◌++◌, append_assoc}
use Prim.Native.Nat.{ℕ, ◌+◌, ◌-◌, ◌*◌, ◌/◌, ◌%◌, ◌≤◌, ◌<◌}
use native.Mathlib.Omega.{arith}
use native.Mathlib.Nat.{div-add-mod', mod-lt, mod-eq_of_lt, mul-add-mod_self_right, mul-add-div_right, zero-mod, zero-div, zero-mul, zero-add}
use lib.Dec.{leb}
use lib.ListN.{length, drop, length-append}
use lib.Seq.{drop-append-le, drop-drop}
use borrow.Author.Tests.{leb-false, lt-ltb}
use Rattle.family.specs.declared.Family.{Family}
use Rattle.family.specs.declared.Family.TheVariants.{Small, Large}
use Rattle.family.specs.Family.{digest_bits, family_of, block_bytes, chain_words, salt_bytes}
use Rattle.startup.specs.Startup.{start_of}
use Rattle.startup.proofs.Started.{start_zero}
use Rattle.bits.specs.declared.LastBits.{LastBits}
use Rattle.bits.specs.Message.{message_of}
use Rattle.state.specs.declared.State.{State}
use Rattle.state.specs.Bytes.{fill, all_zero}
use Rattle.finishing.specs.Blocks.{whole_blocks, blocks_of, chain_over, digest_of}
use Rattle.state.specs.State.{limit, allowed, belongs, consistent_of}
use Rattle.digest.specs.Running.{state_of, absorbed}
use Rattle.finishing.specs.Finish.{held_of, closing, state_digest}
use Rattle.digest.specs.Calls.{salt_fits}
use Rattle.family.proofs.Sizes.{block_pos, block_max}
use Rattle.state.proofs.Filling.{zero_list, fill_take, fill_length, zero_fill}
use Rattle.finishing.proofs.Blocking.{whole_blocks_more, whole_blocks_add, whole_blocks_length, rest_length, rest_small, chain_over_append, chain_zero}
use Rattle.state.proofs.Soundness.{Sound, consistent_of_lem}
use Rattle.finishing.proofs.Held.{held_length}
use Rattle.digest.proofs.Tests.{salt_size}

module _ (s : State) (whole : s.covered.0 ≡ s.compressed * block_bytes s.family + s.covered.0 % block_bytes s.family) (full : length s.held ≡ 128) (a : List ℕ) where
  abbrev b : ℕ
  b = block_bytes s.family

  abbrev p : List ℕ
  p = held_of s ++ a

  abbrev n : ℕ
  n = length p / b

  split : length p ≡ n * b + length p % b
  split = sym (div-add-mod' (length p) b)

  small : length p % b < b
  small = mod-lt (length p) (block_pos s.family)

  covered_next : s.covered.0 + length a ≡ (s.compressed + n) * b + length p % b
  covered_next = omega (arith, split, length-append (held_of s) a, held_length s full, whole)

  rest_next : (s.covered.0 + length a) % b ≡ length p % b
  rest_next = rw covered_next (mul-add-mod_self_right (s.compressed + n) b (length p % b) ∙ mod-eq_of_lt small)

  held_next : held_of (absorbed s a) ≡ drop (n * b) p
  unfolding held_of absorbed
  held_next = rw rest_next (fill_take 128 (drop (n * b) p) (length p % b) (rest_length b p))

  module _ (c : List ℕ) where
    abbrev q : List ℕ
    q = drop (n * b) p ++ c

    abbrev k : ℕ
    k = length q / b

    quotient : length (p ++ c) / b ≡ n + k
    quotient =
        let e : length (p ++ c) ≡ n * b + length q = omega (arith, length-append p c, length-append (drop (n * b) p) c, split, rest_length b p) in
        rw e (mul-add-div_right (block_pos s.family) n (length q))

    cut : drop (n * b) (p ++ c) ≡ q
    cut = drop-append-le (n * b) p c (omega (arith, split))

    chain_cut : chain_over s.family s.salt (whole_blocks k b ((s.compressed + n) * b) q) (chain_over s.family s.salt (whole_blocks n b (s.compressed * b) p) s.chain)
        ≡ chain_over s.family s.salt (whole_blocks (n + k) b (s.compressed * b) (p ++ c)) s.chain
    chain_cut =
        let e : s.compressed * b + n * b ≡ (s.compressed + n) * b = omega arith in
        rw (whole_blocks_add n k b (s.compressed * b) (p ++ c), chain_over_append, cut, e, whole_blocks_more n b (s.compressed * b) p c (omega (arith, split)))

    held_cut : drop (k * b) q ≡ drop ((n + k) * b) (p ++ c)
    held_cut =
        let e : (n + k) * b ≡ n * b + k * b = omega arith in
        rw (e, ← drop-drop, cut)

    -- Taking in a and then c is taking in a ++ c.
    pub absorbed_append : absorbed (absorbed s a) c ≡ absorbed s (a ++ c)
    unfolding absorbed
    absorbed_append =
        let e : s.covered.0 + length a + length c ≡ s.covered.0 + length (a ++ c) = omega (arith, length-append a c) in
        let g : s.compressed + n + k ≡ s.compressed + (n + k) = omega arith in
        rw (held_next, ← append_assoc, quotient) (λ i. record {
          family = s.family;
          m = s.m;
          salt = s.salt;
          chain = chain_cut i;
          covered = record { 0 = e i };
          compressed = g i;
          held = fill 128 (held_cut i);
        })

pub still_full : (s : State) (a : List ℕ) → length (absorbed s a).held ≡ 128
unfolding absorbed
still_full s a = fill_length 128 _ (omega (arith, rest_small s.family (held_of s ++ a), block_max s.family))

-- A sound state that has room for the bytes stays sound.
pub still_sound : (s : State) → Sound s → length s.held ≡ 128 → (a : List ℕ) → s.covered.0 + length a ≤ limit → Sound (absorbed s a)
unfolding absorbed
still_sound s ok full a room =
    let b = block_bytes s.family in
    let p = held_of s ++ a in
    let r = rest_next s ok.whole full a in
    record {
      allowed = ok.allowed;
      belongs = ok.belongs;
      within = room;
      whole = rw r (covered_next s ok.whole full a);
      below = mod-lt (s.covered.0 + length a) (block_pos s.family);
      rest = rw r (zero_fill 128 (drop (length p / b * b) p) (length p % b) (omega (arith, rest_length b p)));
      salted = ok.salted;
      chained = chain_zero s.family s.salt (whole_blocks (length p / b) b (s.compressed * b) p) s.chain ok.chained;
    }

-- The family of m is the one that m belongs to.
pub belongs_own : (m : ℕ) → belongs (family_of m) m ≡ true
unfolding family_of belongs
belongs_own m = by (leb m (digest_bits Small)) refl
  where
    by : (t : Bool) → leb m (digest_bits Small) ≡ t → belongs (cond t Small Large) m ≡ true
    by true e = e
    by false e = lt-ltb (digest_bits Small) m (leb-false m (digest_bits Small) e)

pub salt_zero : (f : Family) (salt : List ℕ) → salt_fits f salt ≡ true → all_zero (drop (salt_bytes f) (fill 64 salt)) ≡ true
salt_zero f salt h = zero_fill 64 salt (salt_bytes f) (salt_size f salt h)

module _ (m : ℕ) (salt xs : List ℕ) where
  abbrev f : Family
  f = family_of m

  abbrev d : List ℕ
  d = drop (length xs / block_bytes f * block_bytes f) xs

  pub state_full : length (state_of m salt xs).held ≡ 128
  unfolding state_of
  state_full = fill_length 128 d (omega (arith, rest_small f xs, block_max f))

  state_held : held_of (state_of m salt xs) ≡ d
  unfolding held_of state_of
  state_held = fill_take 128 d (length xs % block_bytes f) (rest_length (block_bytes f) xs)

  pub state_sound : allowed m ≡ true → salt_fits f salt ≡ true → length xs ≤ limit → Sound (state_of m salt xs)
  unfolding state_of
  state_sound ok fits room = record {
    allowed = ok;
    belongs = belongs_own m;
    within = room;
    whole = sym (div-add-mod' (length xs) (block_bytes f));
    below = mod-lt (length xs) (block_pos f);
    rest = zero_fill 128 d (length xs % block_bytes f) (omega (arith, rest_length (block_bytes f) xs));
    salted = salt_zero f salt fits;
    chained = chain_zero f (fill 64 salt) (whole_blocks (length xs / block_bytes f) (block_bytes f) 0 xs) (start_of f m) (ap all_zero (start_zero f m) ∙ zero_list (16 - chain_words f));
  }

  pub state_consistent : allowed m ≡ true → salt_fits f salt ≡ true → length xs ≤ limit → consistent_of (state_of m salt xs) ≡ true
  state_consistent ok fits room = consistent_of_lem (state_of m salt xs) (state_sound ok fits room)

  -- finished with whatever last bits: the digest and the list of the message that they end
  pub state_digest_lem : (last : LastBits) → state_digest (state_of m salt xs) last ≡ digest_of f m (fill 64 salt) (message_of xs last)
  unfolding state_digest closing digest_of blocks_of state_of
  state_digest_lem last = rw (state_held, chain_over_append)

  pub state_count : (last : LastBits) → (state_of m salt xs).compressed + length (closing (state_of m salt xs) last) ≡ length (blocks_of f m (message_of xs last))
  unfolding closing blocks_of state_of
  state_count last = rw (state_held, length-append, whole_blocks_length)

  -- the state of xs is the first state with xs taken in
  state_from : state_of m salt xs ≡ absorbed (state_of m salt []) xs
  unfolding absorbed state_of held_of whole_blocks chain_over
  state_from = simp (zero-div, zero-mod, zero-mul, zero-add)

-- The state of xs with ys taken in is the state of xs ++ ys.
pub state_absorbed : (m : ℕ) (salt xs ys : List ℕ) → absorbed (state_of m salt xs) ys ≡ state_of m salt (xs ++ ys)
state_absorbed m salt xs ys =
    rw (state_from m salt xs, state_from m salt (xs ++ ys)) (absorbed_append (state_of m salt []) (unfold state_of in sym (div-add-mod' 0 (block_bytes (family_of m)))) (state_full m salt []) xs ys)
