-- The salt is put into zeros.
use Rattle.finishing.proofs.Held.{put_filled}
use Rattle.digest.proofs.bytes.fill_salt.Goals as goal

pub returns : goal.returns
returns c = put_filled 64 _ c.requires c.filled.ensures
