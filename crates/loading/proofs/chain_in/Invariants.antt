-- Each turn stores the next word behind those before it.
use mathlib.Core.Path.{◌≡◌}
use Rattle.state.specs.Bytes.{fill}
use Rattle.loading.specs.Reading.{words_in}
use Rattle.loading.proofs.chain_in.Given as goal

abbrev pub invariant-loop-j : goal.invariant-loop-j
invariant-loop-j l = l.chain ≡ fill 16 (words_in l.j l.form l.at)
