use borrow.Author.Rules.{rules}
use Rattle.sbox.specs.Sbox.{sbox_of}
use Rattle.aes.proofs.Columns.{turned_more}
use Rattle.aes.proofs.sub_each.Goals as goal

pub loop-i-preserved : goal.loop-i-preserved
loop-i-preserved c = turned_more 0 sbox_of c.loop-i.invariant (search rules) c.sub.ensures
