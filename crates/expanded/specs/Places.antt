-- Where the large cipher's quarters stand in the chain's own place. A reader of the public contracts needs none of it.
use Rattle.std.specs.Prelude.{List, ℕ, ◌+◌, ◌*◌, ◌/◌, ◌%◌}
use Rattle.words.specs.Words.{four_at}
use Rattle.compress.specs.declared.cipher.Quarters.{Quarters}

-- the quarters, where the first of them stands at p
abbrev pub quarters_at : ℕ → List ℕ → Quarters
quarters_at p h =
    record { l = four_at h (p % 16); a = four_at h ((p + 4) % 16); b = four_at h ((p + 8) % 16); r = four_at h ((p + 12) % 16) }

-- Before round k the first stands at 12 k. F's words, the first 16 of the round's 32, change that quarter, and the words of F' the third.
unfoldable pub place_of : ℕ → ℕ
place_of i = (12 * (i / 32) + 8 * (i / 16 % 2)) % 16
