-- The small family's words through a window of sixteen: what private functions' contracts cite. Of the public ones `small` cites
-- `small_words` and `halves_in`, and `feed` `halves_at`; a reader of the others needs none of it.
use Rattle.std.specs.Prelude.{ℕ, ◌+◌, ◌-◌, ◌%◌, ◌≤◌, ◌<◌, ◌≡◌, List, [], ◌∷◌, ◌++◌, get_or, drop}
use Rattle.std.specs.Coded.{Coded-set, coded_ℕ}
use Rattle.std.specs.Int.Bits.{bit_xor}
use Rattle.family.specs.declared.Family.TheVariants.{Small}
use Rattle.family.specs.Family.{block_words, chain_words}
use Rattle.counter.specs.declared.Counter.{Counter}
use Rattle.words.specs.Words.{four_at, xor4, round_of, zero4, words_of}
use Rattle.compress.specs.declared.cipher.Halves.{Halves}
use Rattle.compress.specs.declared.inputs.Inputs.{Inputs}
use Rattle.compress.specs.Expansion.{expand_of}

-- the words that the window goes over
abbrev pub small_words : List ℕ → Counter → List ℕ → List ℕ
small_words block c salt = expand_of Small block c (words_of 16 salt)

-- the same, of what is handed on together
abbrev pub made_of : Inputs → List ℕ
made_of s = small_words s.block.now s.counter s.salt.now

-- The window holds the last sixteen (a block's words) of a list's first i words: word j stands at place j % 16.
unfoldable pub Holds : List ℕ → List ℕ → ℕ → Type 0
Holds w v i = (j : ℕ) → j < i → i ≤ j + block_words Small → get_or w (j % block_words Small) 0 ≡ get_or v j 0

-- that is a fact
pub Holds-prop : (w v : List ℕ) (i : ℕ) → IsProp (Holds w v i)
unfolding Holds
Holds-prop w v i f g = λ t j a b. Coded-set coded_ℕ (get_or w (j % block_words Small) 0) (get_or v j 0) (f j a b) (g j a b) t

-- the words i-15, i-14, i-13 and i-16, of the four from i-16 on
abbrev pub taps_from : List ℕ → List ℕ
taps_from far = get_or far 1 0 ∷ get_or far 2 0 ∷ get_or far 3 0 ∷ get_or far 0 0 ∷ []

-- a nonlinear group at i from the four words from i-16 on and the four from i-4 on, under four salt words and what enters of the counter
unfoldable pub nonlinear_from : List ℕ → List ℕ → List ℕ → List ℕ → List ℕ
nonlinear_from far last salt4 counts = xor4 (xor4 (round_of (xor4 (taps_from far) salt4) zero4) last) counts

-- four linear words at i from the same: the fourth reads the first
unfoldable pub linear_from : List ℕ → List ℕ → List ℕ
linear_from far last =
    let first = bit_xor (get_or far 0 0) (get_or last 1 0) in
    first ∷ bit_xor (get_or far 1 0) (get_or last 2 0) ∷ bit_xor (get_or far 2 0) (get_or last 3 0) ∷ bit_xor (get_or far 3 0) first ∷ []

-- what the cipher leaves where the chain stood: its two halves, and the words past them as they were
abbrev pub halves_in : Halves → List ℕ → List ℕ
halves_in s h = s.left ++ (s.right ++ drop (chain_words Small) h)

-- the two halves in their place in the chain, before the round whose first word is i
abbrev pub halves_at : ℕ → List ℕ → Halves
halves_at i h = record { left = four_at h (i % chain_words Small); right = four_at h (4 - i % chain_words Small) }
