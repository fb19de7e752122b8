use Rattle.std.proofs.Common.{rules, ◌≡◌, ◌∙◌, length, ◌≤◌, arith}
use Rattle.std.specs.Str.{IsUtf8}
use Rattle.text.specs.Digits.{hex_of}
use Rattle.text.proofs.Storing.{hex_length, digits_there}
use Rattle.text.proofs.Spelling.{hex_utf8}
use Rattle.streaming.proofs.spelled.Goals as goal

pub returns : goal.returns
returns c =
    let part = c.args.part.now in
    let room : length (hex_of part) ≤ length c.args.digits.now = omega (arith, hex_length part, c.requires, c.told-digits) in
    let put = c.put_hex-size.ensures in
    let there : c.first.result.now ≡ hex_of part = c.first.ensures ∙ rw (put.place, put.buffer) (digits_there c.args.digits.now (hex_of part) room) in
    let text : IsUtf8 c.first.result.now = rw there (hex_utf8 part) in
    search (rules, there, text)
