use mathlib.Core.Path.{refl, ◌∙◌}
use borrow.Author.Rules.{rules}
use Rattle.words.specs.Words.{zero4}
use Rattle.compress.specs.Compression.{small_output}
use Rattle.compress.proofs.Fours.{four_part}
use Rattle.compress.proofs.Growing.{parts_sixteen}
use Rattle.compress.proofs.feed.Goals as goal

pub returns : goal.returns
unfolding small_output
returns c =
    let chain = c.args.chain.now in
    let h = c.args.h.now in
    parts_sixteen chain c.xored-left.result c.xored-right.result zero4 zero4 c.put.new.w c.put-2.new.w c.put-3.new.w c.put-4.new.w (search rules) (search rules) (search rules) refl refl c.put.ensures c.put-2.ensures c.put-3.ensures c.put-4.ensures
    ∙ rw (
      c.xored-right.ensures,
      c.quad-4.ensures ∙ four_part h 4,
      c.quad-3.ensures ∙ four_part chain 4,
      c.xored-left.ensures,
      c.quad-2.ensures ∙ four_part h 0,
      c.quad.ensures ∙ four_part chain 0,
    )
