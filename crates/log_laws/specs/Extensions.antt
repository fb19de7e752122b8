-- The extensions of all registers together.
use Rattle.std.specs.Prelude.{ℕ, zero, suc, ◌+◌}

-- what f gives for 0, 1 and so on below n, added up
unfoldable pub total : (ℕ → ℕ) → ℕ → ℕ
total f zero = 0
total f (suc n) = total f n + f n
