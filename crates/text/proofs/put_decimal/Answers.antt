-- The digits that io finds are the fewest that hold the number.
use mathlib.Core.Path.{◌∙◌}
use Rattle.text.proofs.Storing.{same_text}
use Rattle.text.proofs.Decimal.{decimal_text}
use Rattle.text.proofs.put_decimal.Goals as goal

pub returns : goal.returns
returns c =
    let a = c.args in
    let e = c.decimal-count.ensures in
    let both = same_text a.out.now a.at (e.digits ∙ decimal_text a.n c.decimal-count.result e.len) (c.put.ensures.place, c.put.ensures.buffer) in
    record { place = both.0; buffer = both.1 }
