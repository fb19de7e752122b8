-- What the type of a state says of it: how long its arrays are, and that its chain's words have 32 bits.
use Rattle.std.specs.Prelude.{ℕ, ◌^◌, ◌<◌, get_or}
use Rattle.state.specs.declared.State.{State}
use Rattle.saved_form.specs.Sized.{Sized}

pub record Stored (s : State) : Type 0 where
  pub sized : Sized s
  pub words : (i : ℕ) → get_or s.chain i 0 < 2 ^ 32
