use mathlib.Core.Path.{◌≡◌, sym}
use Prim.Native.Nat.{◌+◌, ◌*◌}
use native.Mathlib.Omega.{arith}
use Rattle.loading.specs.Reading.{words_in}
use Rattle.fields.proofs.Numbers.{number_small}
use Rattle.state.proofs.Filling.{fill_nil}
use Rattle.loading.proofs.Numbers.{word_stored}
use Rattle.loading.proofs.chain_in.Goals as goal

pub loop-j-init : goal.loop-j-init
unfolding words_in
loop-j-init c = sym (fill_nil 16)

pub number_in-requires : goal.number_in-requires
number_in-requires c = (omega arith, omega arith)

-- four bytes make a word
pub overflow_cast-chain : goal.overflow_cast-chain
overflow_cast-chain c =
    let a = c.args in
    omega (arith, c.number_in.ensures, number_small a.form.now (λ i. omega (arith, c.shared_slice_known-1.given i)) 4 (a.at + 4 * c.loop-j.j))

pub loop-j-preserved : goal.loop-j-preserved
loop-j-preserved c =
    let l = c.loop-j in
    let a = c.args in
    word_stored a.form.now a.at l.j (omega (arith, c.requires.1)) l.invariant c.number_in.ensures

pub returns : goal.returns
returns c =
    let l = c.loop-j in
    let e : l.j ≡ c.args.count = omega arith in
    rw e at l.invariant
