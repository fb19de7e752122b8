-- What the type of a state says of its arrays: how long they are.
use Rattle.std.specs.Prelude.{◌≡◌, length}
use Rattle.state.specs.declared.State.{State}

pub record Sized (s : State) : Type 0 where
  pub salt : length s.salt ≡ 64
  pub chain : length s.chain ≡ 16
  pub held : length s.held ≡ 128
