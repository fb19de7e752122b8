use mathlib.Core.Path.{◌∙◌, sym}
use Prim.Native.Nat.{◌+◌, ◌-◌}
use native.Mathlib.Omega.{arith}
use Rattle.fields.proofs.Storing.{number_step, number_end}
use Rattle.fields.proofs.put_number.Goals as goal

pub loop-to-preserved : goal.loop-to-preserved
loop-to-preserved c =
    let l = c.loop-to in
    let all = c.args.at + c.args.count in
    l.invariant ∙ number_step l.out l.to (all - l.to) (all - (l.to + 1)) l.rest (omega arith)

pub returns : goal.returns
returns c =
    let l = c.loop-to in
    sym (l.invariant ∙ number_end l.out l.to (c.args.at + c.args.count - l.to) l.rest (λ h. omega arith))
