use Rattle.aes.specs.Round.{aes_round}
use Rattle.aes.proofs.round.Goals as goal

pub returns : goal.returns
unfolding aes_round
returns c = rw (c.add_round_key.ensures, c.mix_columns.ensures, c.shift_rows.ensures, c.sub_bytes.ensures)
