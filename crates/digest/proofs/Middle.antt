-- The middle of an absorption: what the code's locals hold after some of the bytes.
use mathlib.Core.Path.{◌≡◌, refl, ap, sym, ◌∙◌}
use mathlib.Core.List.{List, [], ◌++◌, append_assoc, append-nil}
use Prim.Native.Nat.{ℕ, suc, ◌+◌, ◌-◌, ◌*◌, ◌/◌, ◌%◌, ◌≤◌, ◌<◌}
use native.Mathlib.Omega.{arith}
use native.Mathlib.Nat.{div-eq_of_lt-le, mul-div_cancel, le-mul_of_pos_right}
use lib.ListN.{length, take, drop, replicate, length-append, length-take, length-drop, drop_of_length-le}
use lib.Seq.{sets, drop-append-le, length-take-le, take_all, take-add}
use Rattle.counter.specs.declared.Counter.{Counter}
use Rattle.family.specs.Family.{block_bytes}
use Rattle.counter.specs.Counter.{number_of, counter_of}
use Rattle.compress.specs.Compression.{compress_of}
use Rattle.compress.specs.Run.{run_over}
use Rattle.compress.proofs.Compressed.{compress_block}
use Rattle.state.specs.declared.State.{State}
use Rattle.state.specs.Bytes.{fill}
use Rattle.finishing.specs.Blocks.{whole_blocks, chain_over}
use Rattle.state.specs.State.{limit}
use Rattle.finishing.specs.Finish.{held_of}
use Rattle.digest.specs.Running.{absorbed}
use Rattle.family.proofs.Sizes.{block_pos, block_max}
use Rattle.state.proofs.Filling.{fill_nil, fill_take}
use Rattle.finishing.proofs.Blocking.{whole_blocks_more, whole_blocks_add, whole_blocks_last, chain_over_append, chain_over_last}
use Rattle.finishing.proofs.Running.{next_counter, run_chain}
use Rattle.state.proofs.Soundness.{Sound}
use Rattle.finishing.proofs.Held.{fill_puts, held_length, held_filled}

-- After the bytes xs went into the state s: n blocks are compressed and rest bytes held; the counter is the bits in whole blocks so far.
pub record Mid (s : State) (xs chain : List ℕ) (compressed : ℕ) (held : List ℕ) (rest : ℕ) (counter : Counter) : Type 0 where
  pub n : ℕ
  pub size : length (held_of s ++ xs) ≡ n * block_bytes s.family + rest
  pub small : rest < block_bytes s.family
  pub chain_is : chain ≡ chain_over s.family s.salt (whole_blocks n (block_bytes s.family) (s.compressed * block_bytes s.family) (held_of s ++ xs)) s.chain
  pub compressed_is : compressed ≡ s.compressed + n
  pub held_is : held ≡ fill 128 (drop (n * block_bytes s.family) (held_of s ++ xs))
  pub counter_is : counter ≡ counter_of (8 * (s.compressed * block_bytes s.family + n * block_bytes s.family))

module _ (s : State) (ok : Sound s) (full : length s.held ≡ 128) where
  abbrev b : ℕ
  b = block_bytes s.family

  length_so_far : (xs : List ℕ) → length (held_of s ++ xs) ≡ s.covered.0 % b + length xs
  length_so_far xs = omega (arith, length-append (held_of s) xs, held_length s full)

  pub mid_start : {rest : ℕ} {counter : Counter} → rest ≡ s.covered.0 % b → counter ≡ counter_of (8 * (s.covered.0 - rest))
      → Mid s [] s.chain s.compressed s.held rest counter
  unfolding whole_blocks chain_over
  mid_start e k =
      let z : 0 * b ≡ 0 = omega arith in
      let whole : s.covered.0 - s.covered.0 % b ≡ s.compressed * b + 0 * b = omega (arith, ok.whole) in
      rw e record {
        n = 0;
        size = omega (arith, length_so_far []);
        small = ok.below;
        chain_is = refl;
        compressed_is = omega arith;
        held_is = rw (z, append-nil) (held_filled s full ok.rest);
        counter_is = rw (e, whole) at k;
      }

  module _ {xs chain : List ℕ} {compressed : ℕ} {held : List ℕ} {rest : ℕ} {counter : Counter} (m : Mid s xs chain compressed held rest counter) where
    bytes_done : s.compressed * b + m.n * b + rest ≡ s.covered.0 + length xs
    bytes_done = omega (arith, m.size, length_so_far xs, ok.whole)

    -- the blocks are no more than the bytes
    pub compressed_max : compressed ≤ s.covered.0 + length xs
    compressed_max = omega (arith, m.compressed_is, bytes_done, le-mul_of_pos_right (s.compressed + m.n) (block_pos s.family))

    module _ (ys : List ℕ) where
      abbrev p : List ℕ
      p = held_of s ++ (xs ++ ys)

      abbrev tail : List ℕ
      tail = drop (m.n * b) (held_of s ++ xs)

      tail_length : length tail ≡ rest
      tail_length =
          let e = m.size in
          simp length-drop (omega arith)

      length_more : length p ≡ m.n * b + rest + length ys
      length_more = omega (arith, length_so_far (xs ++ ys), length_so_far xs, length-append xs ys, m.size)

      joined : p ≡ (held_of s ++ xs) ++ ys
      joined = sym (append_assoc (held_of s) xs ys)

      tail_more : drop (m.n * b) p ≡ tail ++ ys
      tail_more = rw joined (drop-append-le (m.n * b) (held_of s ++ xs) ys (omega (arith, m.size)))

      chain_more : chain ≡ chain_over s.family s.salt (whole_blocks m.n b (s.compressed * b) p) s.chain
      chain_more = rw (joined, whole_blocks_more m.n b (s.compressed * b) (held_of s ++ xs) ys (omega (arith, m.size))) m.chain_is

      module _ (fits : rest + length ys ≤ b) where
        held_more : sets held rest ys ≡ fill 128 (tail ++ ys)
        held_more =
            ap (λ (l : List ℕ). sets l rest ys) m.held_is
            ∙ (rw tail_length at (fill_puts 128 ys tail (omega (arith, tail_length, block_max s.family))))

        pub mid_more : rest + length ys < b → Mid s (xs ++ ys) chain compressed (sets held rest ys) (rest + length ys) counter
        mid_more h = record {
          n = m.n;
          size = omega (arith, length_more);
          small = h;
          chain_is = chain_more;
          compressed_is = m.compressed_is;
          held_is = held_more ∙ ap (fill 128) (sym tail_more);
          counter_is = m.counter_is;
        }

        module _ (h : rest + length ys ≡ b) (room : s.covered.0 + length xs ≤ limit) where
          block : take b (sets held rest ys) ≡ take b (drop (m.n * b) p)
          block =
              let e : length (tail ++ ys) ≡ b = omega (arith, length-append tail ys, tail_length) in
              ap (take b) held_more ∙ fill_take 128 (tail ++ ys) b e ∙ sym (ap (take b) tail_more ∙ take_all b (tail ++ ys) (omega (arith, e)))

          advanced : counter_of (number_of counter + 8 * b) ≡ counter_of (8 * (s.compressed * b + suc m.n * b))
          advanced =
              let e : s.compressed * b + m.n * b + b ≡ s.compressed * b + suc m.n * b = omega arith in
              rw (m.counter_is, next_counter (s.compressed * b + m.n * b) b (omega (arith, bytes_done)), e)

          pub mid_block : Mid s (xs ++ ys) (compress_of s.family chain (sets held rest ys) (counter_of (number_of counter + 8 * b)) s.salt) (compressed + 1) (replicate 128 0) 0 (counter_of (number_of counter + 8 * b))
          mid_block =
              let size : length p ≡ suc m.n * b = omega (arith, length_more) in
              record {
                n = suc m.n;
                size = omega (arith, size);
                small = block_pos s.family;
                chain_is =
                    rw (← compress_block, block, advanced, whole_blocks_last m.n b (s.compressed * b) p, chain_over_last, ← chain_more);
                compressed_is = omega (arith, m.compressed_is);
                held_is = sym (ap (fill 128) (drop_of_length-le p {i = suc m.n * b} (omega (arith, size))) ∙ fill_nil 128);
                counter_is = advanced;
              }

      -- whole blocks behind no held byte
      module _ (k : ℕ) (h : length ys ≡ k * b) (none : rest ≡ 0) (room : s.covered.0 + length (xs ++ ys) ≤ limit) where
        tail_none : tail ≡ []
        tail_none = drop_of_length-le (held_of s ++ xs) {i = m.n * b} (omega (arith, m.size))

        covered_more : s.covered.0 + length (xs ++ ys) ≡ s.compressed * b + (m.n + k) * b
        covered_more = omega (arith, bytes_done, length-append xs ys)

        run : run_over s.family s.salt k (counter_of (number_of counter + 8 * b)) ys chain
            ≡ chain_over s.family s.salt (whole_blocks (m.n + k) b (s.compressed * b) p) s.chain
        run =
            let done = s.compressed * b + m.n * b in
            rw (m.counter_is, next_counter done b (omega (arith, covered_more)), whole_blocks_add m.n k b (s.compressed * b) p, chain_over_append, ← chain_more, tail_more, tail_none)
            (run_chain s.family s.salt k done ys chain (omega (arith, covered_more)))

        pub mid_run : Mid s (xs ++ ys) (run_over s.family s.salt k (counter_of (number_of counter + 8 * b)) ys chain) (compressed + k) held rest (counter_of (8 * (s.covered.0 + length (xs ++ ys))))
        mid_run =
            let size : length p ≡ (m.n + k) * b = omega (arith, length_more) in
            record {
              n = m.n + k;
              size = omega (arith, size);
              small = m.small;
              chain_is = run;
              compressed_is = omega (arith, m.compressed_is);
              held_is = m.held_is ∙ ap (fill 128) (tail_none ∙ sym (drop_of_length-le p {i = (m.n + k) * b} (omega (arith, size))));
              counter_is = rw covered_more;
            }

    pub mid_end : ◌≡◌ {A = State} (record { family = s.family; m = s.m; salt = s.salt; chain = chain; covered = record { 0 = s.covered.0 + length xs }; compressed = compressed; held = held }) (absorbed s xs)
    unfolding absorbed
    mid_end =
        let e : length (held_of s ++ xs) / b ≡ m.n = div-eq_of_lt-le b (omega (arith, m.size)) (omega (arith, m.size, m.small)) in
        rw e (λ i. record { family = s.family; m = s.m; salt = s.salt; chain = m.chain_is i; covered = record { 0 = s.covered.0 + length xs }; compressed = m.compressed_is i; held = m.held_is i })

  -- a turn of the loop: count bytes of d from i on
  module _ (d : List ℕ) (i count : ℕ) (within : i + count ≤ length d) {chain : List ℕ} {compressed : ℕ} {held : List ℕ} {rest : ℕ} {counter : Counter}
      (m : Mid s (take i d) chain compressed held rest counter) {size : ℕ} (e : size ≡ b) {more : List ℕ} (stored : more ≡ sets held rest (take count (drop i d))) where
    got : length (take count (drop i d)) ≡ count
    got = length-take-le count (drop i d) (omega (arith, length-drop i d))

    pub next_more : rest + count ≤ size → (rest + count ≡ size → ⊥) → Mid s (take (i + count) d) chain compressed more (rest + count) counter
    next_more h n = rw (stored, take-add i count d) (rw got at (mid_more m (take count (drop i d)) (omega (arith, got)) (omega (arith, got))))

    pub next_block : rest + count ≡ size → s.covered.0 + length d ≤ limit → {reached : Counter} {next : List ℕ} → reached ≡ counter_of (number_of counter + 8 * size)
        → next ≡ compress_of s.family chain more reached s.salt → Mid s (take (i + count) d) next (compressed + 1) (replicate 128 0) 0 reached
    next_block h room q r =
        rw (r, q, e, stored, take-add i count d) (mid_block m (take count (drop i d)) (omega (arith, got)) (omega (arith, got)) (omega (arith, length-take i d)))

  -- or n whole blocks of d from i on
  pub next_run : (d : List ℕ) (i n : ℕ) {chain : List ℕ} {compressed : ℕ} {held : List ℕ} {rest : ℕ} {counter : Counter} → Mid s (take i d) chain compressed held rest counter
      → rest ≡ 0 → s.covered.0 + length d ≤ limit → {size : ℕ} → size ≡ b → i + n * size ≤ length d → {next : Counter} → next ≡ counter_of (number_of counter + 8 * size) → {after : List ℕ}
      → after ≡ run_over s.family s.salt (length (take (i + n * size - i) (drop i d)) / b) next (take (i + n * size - i) (drop i d)) chain → {reached : Counter}
      → reached ≡ counter_of (8 * (s.covered.0 + (i + n * size))) → Mid s (take (i + n * size) d) after (compressed + n) held rest reached
  next_run d i n m none room e within q r t =
      let w : i + n * b ≤ length d = rw e at within in
      let k : i + n * b - i ≡ n * b = omega arith in
      let ys = take (n * b) (drop i d) in
      let got : length ys ≡ n * b = length-take-le (n * b) (drop i d) (omega (arith, length-drop i d)) in
      let count : length ys / b ≡ n = rw got (mul-div_cancel n (block_pos s.family)) in
      let whole : length (take i d ++ ys) ≡ i + n * b = omega (arith, length-append (take i d) ys, length-take i d) in
      rw (t, r, q, e, k, count, take-add i (n * b) d) (rw whole at (mid_run m ys n got none (omega (arith, whole))))
