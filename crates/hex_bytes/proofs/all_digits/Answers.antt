-- Each character is a digit, or one is not.
use mathlib.Core.Path.{◌∙◌}
use Rattle.std.proofs.Common.{rules, tests}
use lib.Dec.{ltb}
use Rattle.std.proofs.lemmas.Iterator.{YieldsList-from_slice}
use Rattle.std.proofs.lemmas.Iterator.Search.{all_from_yields_List}
use Rattle.hex_bytes.specs.Hex.{digit_value}
use Rattle.hex_bytes.proofs.Digits.{digits_all}
use Rattle.hex_bytes.proofs.all_digits.Goals as goal

pub returns : goal.returns
returns c =
    let text = c.args.text.now in
    all_from_yields_List (λ d. ltb (digit_value d) 16) _ _ _ c.all.ensures.ran (YieldsList-from_slice text (cc)) (λ x b q k. search (rules, tests)) ∙ digits_all text
