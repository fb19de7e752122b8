use mathlib.Core.Path.{◌∙◌}
use borrow.Author.Rules.{rules}
use Rattle.compress.specs.Compression.{large_output}
use Rattle.compress.proofs.Fours.{four_part}
use Rattle.compress.proofs.Growing.{parts_sixteen}
use Rattle.expanded.proofs.feed.Goals as goal

pub returns : goal.returns
unfolding large_output
returns c =
    let chain = c.args.chain.now in
    let h = c.args.h.now in
    parts_sixteen chain c.xored-l.result c.xored-a.result c.xored-b.result c.xored-r.result c.put.new.w c.put-2.new.w c.put-3.new.w c.put-4.new.w (search rules) (search rules) (search rules) (search rules) (search rules) c.put.ensures c.put-2.ensures c.put-3.ensures c.put-4.ensures
    ∙ rw (
      c.xored-r.ensures,
      c.quad-8.ensures ∙ four_part h 4,
      c.quad-7.ensures ∙ four_part chain 12,
      c.xored-b.ensures,
      c.quad-6.ensures ∙ four_part h 0,
      c.quad-5.ensures ∙ four_part chain 8,
      c.xored-a.ensures,
      c.quad-4.ensures ∙ four_part h 12,
      c.quad-3.ensures ∙ four_part chain 4,
      c.xored-l.ensures,
      c.quad-2.ensures ∙ four_part h 8,
      c.quad.ensures ∙ four_part chain 0,
    )
