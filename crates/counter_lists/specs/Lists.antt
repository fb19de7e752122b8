-- What demand 3 says of the compressions of one digest, start-up calls not counted: their counters, and their list of (counter, block).
use Rattle.std.specs.Prelude.{◌≡◌, List, [], ◌∷◌, ◌++◌, map, ℕ}
use Rattle.family.specs.declared.Family.{Family}
use Rattle.family.specs.declared.Family.TheVariants.{Small, Large}
use Rattle.counter.specs.declared.Counter.{Counter}
use Rattle.counter.specs.Counter.{counter_of}
use Rattle.bits.specs.Message.{Message}
use Rattle.finishing.specs.Blocks.{blocks_of}

-- "counter": the words of it that a family's compression reads, the low one first: two in the small family, four in the large
unfoldable pub words_read : Family → Counter → List ℕ
words_read Small c = c.0 ∷ c.1 ∷ []
words_read Large c = c.0 ∷ c.1 ∷ c.2 ∷ c.3 ∷ []

-- "lists of (counter, block)": what the compressions of a message's digest are handed, in their order: the counter's words and the block
unfoldable pub handed : Family → ℕ → Message → List (List ℕ × List ℕ)
handed f m x = map (λ b. (words_read f (counter_of b.0), b.1)) (blocks_of f m x)

-- "no two of those compressions use the same counter": no two of a list are equal
unfoldable pub absent : {A : Type 0} → A → List A → Type 0
absent a [] = Unit
absent a (x ∷ xs) = (x ≡ a → ⊥) × absent a xs

unfoldable pub distinct : {A : Type 0} → List A → Type 0
distinct [] = Unit
distinct (x ∷ xs) = absent x xs × distinct xs

-- "the opening of the other": a list opens another where the other is that list and more, which may be nothing
pub record Opens {A : Type 0} (xs ys : List A) : Type 0 where
  pub more : List A
  pub is : xs ++ more ≡ ys
