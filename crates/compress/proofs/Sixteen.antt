-- The window of sixteen words.
use mathlib.Core.Path.{◌≡◌, ◌∙◌}
use Prim.Native.Nat.{ℕ, ◌+◌, ◌-◌, ◌%◌, ◌≤◌, ◌<◌}
use native.Mathlib.Omega.{arith}
use native.Mathlib.Decide.{dec_lt}
use mathlib.Core.List.{List}
use lib.ListN.{length, get_or}
use lib.Seq.{sets, length-sets}
use Rattle.words.specs.Words.{four_at}
use Rattle.compress.specs.Window.{Holds}
use Rattle.compress.proofs.Fours.{stored, kept, four_at_lem, four_length}

pub holds_none : (w v : List ℕ) → Holds w v 0
unfolding Holds
holds_none w v j h k = absurd (omega arith)

-- four words of the last sixteen stand together
pub holds_four : (w v : List ℕ) (i j : ℕ) → Holds w v i → j % 4 ≡ 0 → j + 4 ≤ i → i ≤ j + 16 → four_at w (j % 16) ≡ four_at v j
unfolding Holds four_at
holds_four w v i j s e h k =
    let at : (t : ℕ) → t < 4 → get_or w (j % 16 + t) 0 ≡ get_or v (j + t) 0 =
    λ t b. let m : (j + t) % 16 ≡ j % 16 + t = omega arith in
    rw m at (s (j + t) (omega arith) (omega arith)) in
    rw (s j (omega arith) k, at 1 (omega arith), at 2 (omega arith), at 3 (omega arith))

-- four words more take the place of the oldest
pub holds_put : (w v x : List ℕ) (i : ℕ) → Holds w v i → length w ≡ 16 → i % 4 ≡ 0 → x ≡ four_at v i → Holds (sets w (i % 16) x) v (i + 4)
unfolding Holds
holds_put w v x i s n e g j h k = rw g (go (dec_lt j i))
  where
    go : Dec (j < i) → get_or (sets w (i % 16) (four_at v i)) (j % 16) 0 ≡ get_or v j 0
    go (yes b) =
        let l = four_length v i in
        kept (four_at v i) w (i % 16) (j % 16) (λ t c q. omega arith) ∙ s j b (omega arith)
    go (no b) =
        let l = four_length v i in
        let at : j % 16 ≡ i % 16 + (j - i) = omega arith in
        let to : i + (j - i) ≡ j = omega arith in
        rw at (stored w (i % 16) (four_at v i) (j - i) (omega arith) (omega arith)) ∙ rw to at (four_at_lem v i (j - i) (omega arith))

-- the window after its next four words were put in
pub holds_next : (u w v x : List ℕ) (i p : ℕ) → Holds w v i → length w ≡ 16 → i % 4 ≡ 0 → x ≡ four_at v i → p ≡ i % 16 → u ≡ sets w p x
    → (length u ≡ 16) × Holds u v (i + 4)
holds_next u w v x i p h l g e d s = rw (s, d) (length-sets w (i % 16) x ∙ l, holds_put w v x i h l g e)
