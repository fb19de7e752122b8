-- The tables meet their rule, by one test that antt computes over all 1,024 entries.
use Prim.Native.Nat.{◌/◌, ◌%◌}
use Rattle.sbox.specs.Sbox.{sbox_of, sbox_table}
use Rattle.words.specs.Words.{from_bytes, from_column}
use Rattle.tables.specs.Tables.{entry_of, round_tables}
use Rattle.tables.proofs.Listed.{literal}
use Rattle.tables.proofs.lent.Goals as goal

pub returns : goal.returns
unfolding round_tables entry_of sbox_of sbox_table from_column from_bytes
returns c = literal (λ k. entry_of (k / 256) (k % 256)) _ tt
