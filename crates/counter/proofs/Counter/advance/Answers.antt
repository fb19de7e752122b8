-- `Counter::advance` meets its contract: each word's carry goes into the next.
use Rattle.counter.proofs.Counting.{advanced}
use Rattle.counter.proofs.Counter.advance.Goals as goal

pub returns : goal.returns
returns c =
    let w0 = c.add_word-a in
    let w1 = c.add_word-b in
    let w2 = c.add_word-c in
    let w3 = c.add_word-d in
    advanced c.args.self c.args.bits _ _ _ _ w0.result.carry w1.result.carry w2.result.carry
    w3.result.carry w0.ensures.0 w1.ensures.0 w2.ensures.0 w3.ensures.0 w0.ensures.1 w1.ensures.1 w2.ensures.1 w3.ensures.1
