-- The message expansion (document 01, "Expansion, small" and "Expansion, large"): one definition over the family's numbers. A list of words grows
-- at its end, and a word is read by its distance back from the next one.
use Rattle.std.specs.Prelude.{ℕ, ◌+◌, ◌-◌, ◌*◌, ◌/◌, ◌%◌, cond, List, [], ◌∷◌, ◌++◌, get_or, length, eqb}
use Rattle.std.specs.Int.Bits.{bit_xor}
use Rattle.family.specs.declared.Family.{Family}
use Rattle.family.specs.declared.Family.TheVariants.{Small, Large}
use Rattle.counter.specs.declared.Counter.{Counter}
use Rattle.family.specs.Family.{block_words, near_distance, salt_quads, runs}
use Rattle.words.specs.Words.{times, four_at, xor4, round_of, zero4, words_of}

-- the word d places back from the next
unfoldable pub back : List ℕ → ℕ → ℕ
back w d = get_or w (length w - d) 0

abbrev pub complement : ℕ → ℕ
complement x = bit_xor x 0xFFFF_FFFF

-- Small: the counter's low word goes into 16, 58, 87 and 124, its high word into 17, 57, 86 and 127; at 58, 87, 17 and 127 the complement is used.
-- Large: counter words 0,1,2,3 enter at 32 to 35; 3,2,1,0 at 164 to 167; 2,3,0,1 at 316 to 319; 1,0,3,2 at 440 to 443. In each group the last of
-- the four is complemented.
unfoldable pub places : Family → Counter → List (ℕ × ℕ)
places Small c =
    (16, c.0) ∷ (58, complement c.0) ∷ (87, complement c.0) ∷ (124, c.0)
    ∷ (17, complement c.1) ∷ (57, c.1) ∷ (86, c.1) ∷ (127, complement c.1) ∷ []
places Large c =
    (32, c.0) ∷ (33, c.1) ∷ (34, c.2) ∷ (35, complement c.3)
    ∷ (164, c.3) ∷ (165, c.2) ∷ (166, c.1) ∷ (167, complement c.0)
    ∷ (316, c.2) ∷ (317, c.3) ∷ (318, c.0) ∷ (319, complement c.1)
    ∷ (440, c.1) ∷ (441, c.0) ∷ (442, c.3) ∷ (443, complement c.2) ∷ []

-- what enters word i: the value beside the place that is i, and nothing where none is
unfoldable pub enters : List (ℕ × ℕ) → ℕ → ℕ
enters [] i = 0
enters (p ∷ ps) i = cond (eqb i p.0) p.1 (enters ps i)

-- A nonlinear group of four at i: one AES round, zero subkey, over words i-15, i-14, i-13, i-16 (large: i-31, i-30, i-29, i-32), each xored with a
-- salt word, the result xored with words i-4 to i-1; and the counter enters as the word is made.
unfoldable pub taps_of : ℕ → List ℕ → List ℕ
taps_of n w = back w (n - 1) ∷ back w (n - 2) ∷ back w (n - 3) ∷ back w n ∷ []

unfoldable pub last_of : List ℕ → List ℕ
last_of w = back w 4 ∷ back w 3 ∷ back w 2 ∷ back w 1 ∷ []

unfoldable pub counts_of : List (ℕ × ℕ) → ℕ → List ℕ
counts_of ps i = enters ps i ∷ enters ps (i + 1) ∷ enters ps (i + 2) ∷ enters ps (i + 3) ∷ []

unfoldable pub group_of : ℕ → List (ℕ × ℕ) → List ℕ → List ℕ → List ℕ
group_of n ps salt4 w = xor4 (xor4 (round_of (xor4 (taps_of n w) salt4) zero4) (last_of w)) (counts_of ps (length w))

-- what a group's words become where the counter enters: the code's form of the last step, for any place. No group begins where i is no multiple of 4.
unfoldable pub entered_of : Family → Counter → ℕ → List ℕ → List ℕ
entered_of f c i x = cond (eqb (i % 4) 0) (xor4 x (counts_of (places f c) i)) x

-- Groups use salt words 0 to 3 and 4 to 7 in turn (large: the salt runs in four quarters).
unfoldable pub nonlinear_run : ℕ → ℕ → List (ℕ × ℕ) → List ℕ → ℕ → List ℕ → List ℕ
nonlinear_run n quads ps salt groups = times groups (λ k w. w ++ group_of n ps (four_at salt (4 * (k % quads))) w)

-- A linear word is word i-16 xor word i-3 (large: i-32 and i-7).
unfoldable pub linear_of : ℕ → ℕ → List ℕ → ℕ
linear_of n near w = bit_xor (back w n) (back w near)

unfoldable pub linear_run : ℕ → ℕ → ℕ → List ℕ → List ℕ
linear_run n near count = times count (λ k w. w ++ (linear_of n near w ∷ []))

-- Run r, of as many words as a block has: nonlinear and linear in turn.
unfoldable pub run_of : Family → Counter → List ℕ → ℕ → List ℕ → List ℕ
run_of f c salt r w =
    cond (eqb (r % 2) 0)
    (nonlinear_run (block_words f) (salt_quads f) (places f c) salt (block_words f / 4) w)
    (linear_run (block_words f) (near_distance f) (block_words f) w)

-- Words 0 to 15 (large: 0 to 31) are the block; then the runs. Salt in words.
unfoldable pub expand_of : Family → List ℕ → Counter → List ℕ → List ℕ
expand_of f block c salt = times (runs f) (run_of f c salt) (words_of (block_words f) block)
