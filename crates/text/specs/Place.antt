-- Text in a buffer: what the buffer holds afterwards, and the place behind the text.
use Rattle.std.specs.Prelude.{cond, List, ℕ, ◌+◌, leb, length}
use Rattle.std.proofs.lemmas.List.Edits.{sets}

-- xs stored from place at on where it fits whole, else the buffer as it was
unfoldable pub placed : List ℕ → ℕ → List ℕ → List ℕ
placed out at xs = cond (leb (at + length xs) (length out)) (sets out at xs) out

-- the place behind xs in a buffer of size places where it fits whole, else at itself
unfoldable pub place_after : ℕ → ℕ → List ℕ → ℕ
place_after size at xs = cond (leb (at + length xs) size) (at + length xs) at
