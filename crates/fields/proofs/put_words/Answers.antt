use mathlib.Core.Path.{◌∙◌, sym, ap}
use Prim.Native.Nat.{◌+◌}
use native.Mathlib.Omega.{arith}
use lib.ListN.{drop}
use lib.Seq.{sets}
use Rattle.fields.specs.Fields.{bytes_of}
use Rattle.fields.proofs.Storing.{sets_out, words_step, words_end}
use Rattle.fields.proofs.put_words.Goals as goal

pub returns-then-to-out : goal.returns-then-to-out
returns-then-to-out c =
    let l = c.loop-w in
    sym (l.invariant ∙ sets_out l.out l.to (bytes_of (drop l.w-index c.args.words.now)) (omega arith))

pub loop-w-preserved : goal.loop-w-preserved
loop-w-preserved c =
    let l = c.loop-w in
    let words = c.args.words.now in
    let put = rw c.from.ensures at c.put_number.ensures in
    l.invariant ∙ words_step l.out l.to words l.w-index (omega arith) ∙ ap (λ x. sets x (l.to + 4) (bytes_of (drop (l.w-index + 1) words))) (sym put)

pub returns : goal.returns
returns c =
    let l = c.loop-w in
    sym (l.invariant ∙ words_end l.out l.to c.args.words.now l.w-index (omega arith))
