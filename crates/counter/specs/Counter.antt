-- The bit counter that is handed to compression: four words, the low one first.
use Rattle.std.specs.Prelude.{ℕ, ◌+◌, ◌*◌, ◌/◌, ◌%◌, ◌^◌}
use Rattle.counter.specs.declared.Counter.{Counter}

-- the number that a counter's words stand for
unfoldable pub number_of : Counter → ℕ
number_of c = c.0 + 2 ^ 32 * (c.1 + 2 ^ 32 * (c.2 + 2 ^ 32 * c.3))

-- the counter of a number of bits, modulo 2^128
unfoldable pub counter_of : ℕ → Counter
counter_of n = (n % 2 ^ 32, n / 2 ^ 32 % 2 ^ 32, n / 2 ^ 64 % 2 ^ 32, n / 2 ^ 96 % 2 ^ 32)
