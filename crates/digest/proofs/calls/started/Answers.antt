-- The fields are those of the state that no bytes give.
use Rattle.digest.proofs.Answers.{start_made}
use Rattle.digest.proofs.calls.started.Goals as goal

pub returns : goal.returns
returns c = start_made _ _ c.of-family.ensures c.starting_value-chain.ensures c.fill_salt.ensures
