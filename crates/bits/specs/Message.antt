-- A message (document 02, Five): whole bytes, and last bits behind them.
use Rattle.std.specs.Prelude.{List, ℕ, ◌+◌, ◌*◌, length}
use Rattle.bits.specs.declared.LastBits.{LastBits}
use Rattle.bits.specs.Bits.{no_bits}

pub record Message : Type 0 where
  pub bytes : List ℕ
  pub last : LastBits

abbrev pub message_of : List ℕ → LastBits → Message
message_of xs last = record { bytes = xs; last = last }

-- a message of whole bytes
abbrev pub whole : List ℕ → Message
whole xs = message_of xs no_bits

-- how many bits it has
abbrev pub bit_length : Message → ℕ
bit_length x = 8 * length x.bytes + x.last.count
