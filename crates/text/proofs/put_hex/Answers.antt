use mathlib.Core.Path.{◌∙◌, sym, ap}
use mathlib.Core.List.{List}
use Prim.Native.Nat.{ℕ, ◌+◌, ◌*◌}
use native.Mathlib.Omega.{arith}
use lib.ListN.{drop}
use lib.Seq.{sets}
use Rattle.text.specs.Digits.{hex_of}
use Rattle.text.proofs.Storing.{hex_step, hex_end, hex_placed}
use Rattle.text.proofs.put_hex.Goals as goal

pub loop-i-preserved : goal.loop-i-preserved
loop-i-preserved c =
    let l = c.loop-i in
    let at = c.args.at in
    let bytes = c.args.bytes.now in
    let put = rw c.pair.ensures at c.put_bytes.ensures in
    l.invariant ∙ hex_step l.out bytes at l.i c.loop-i-test.true
    ∙ ap (λ (x : List ℕ). sets x (at + 2 * (l.i + 1)) (hex_of (drop (l.i + 1) bytes))) (sym put)

pub returns : goal.returns
returns c =
    let l = c.loop-i in
    let bytes = c.args.bytes.now in
    let all = hex_placed c.args.out.now c.args.at bytes (sym c.fits.ensures ∙ c.if-not-fits.false) in
    record {
      place = all.0;
      buffer = sym (l.invariant ∙ hex_end l.out bytes c.args.at l.i (omega arith)) ∙ all.1;
    }
