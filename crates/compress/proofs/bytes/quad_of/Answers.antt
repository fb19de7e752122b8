use mathlib.Core.Path.{◌∙◌}
use Prim.Native.Nat.{◌+◌}
use native.Mathlib.Omega.{arith}
use Rattle.compress.proofs.Fours.{word_part}
use Rattle.compress.proofs.bytes.quad_of.Goals as goal

pub returns : goal.returns
returns c =
    let b = c.args.bytes.now in
    let j = c.args.j in
    rw (
      c.word_of.ensures ∙ word_part b _ _ j (omega arith) (omega arith),
      c.word_of-2.ensures ∙ word_part b _ _ (j + 1) (omega arith) (omega arith),
      c.word_of-3.ensures ∙ word_part b _ _ (j + 2) (omega arith) (omega arith),
      c.word_of-4.ensures ∙ word_part b _ _ (j + 3) (omega arith) (omega arith),
    )
