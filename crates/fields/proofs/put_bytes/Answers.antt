use mathlib.Core.Path.{sym}
use native.Mathlib.Omega.{arith}
use Rattle.fields.proofs.Storing.{sets_out, put_room}
use Rattle.fields.proofs.put_bytes.Goals as goal

pub returns-then-out-at : goal.returns-then-out-at
returns-then-out-at c =
    let a = c.args in
    sym (sets_out a.out.now a.at a.bytes.now (omega arith))

pub returns : goal.returns
returns c =
    let a = c.args in
    put_room a.out.now a.at a.bytes.now (omega arith) c.min-count.ensures (omega arith) c.copy_from_slice.ensures.after
