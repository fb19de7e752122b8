use mathlib.Core.Path.{◌≡◌, refl, sym}
use Prim.Native.Nat.{◌+◌, ◌-◌, ◌^◌, ◌<◌}
use native.Mathlib.Omega.{arith}
use Rattle.fields.specs.Fields.{number_in}
use Rattle.loading.proofs.Numbers.{number_more, number_room}
use Rattle.loading.proofs.number_in.Goals as goal

pub loop-i-init : goal.loop-i-init
unfolding number_in
loop-i-init c =
    let none : c.args.count - c.args.count ≡ 0 = omega arith in
    rw none

pub overflow_mul-value : goal.overflow_mul-value
overflow_mul-value c =
    let room : c.loop-i.value < 2 ^ 56 =
    let l = c.loop-i in
    let a = c.args in
    rw l.invariant (number_room a.form.now (λ i. omega (arith, c.type_inv.form i)) (a.count - l.i) (a.at + l.i) (omega (arith, c.requires.1))) in
    omega (arith, room)

pub overflow_add-value : goal.overflow_add-value
overflow_add-value c =
    let room : c.loop-i.value < 2 ^ 56 =
    let l = c.loop-i in
    let a = c.args in
    rw l.invariant (number_room a.form.now (λ i. omega (arith, c.type_inv.form i)) (a.count - l.i) (a.at + l.i) (omega (arith, c.requires.1))) in
    omega (arith, room, c.byte_at.ensures.1)

pub loop-i-preserved : goal.loop-i-preserved
loop-i-preserved c =
    let l = c.loop-i in
    let a = c.args in
    let e : l.i - 1 + 1 ≡ l.i = omega arith in
    rw (c.byte_at.ensures.0, l.invariant) (sym (rw e at (number_more a.form.now a.at a.count (l.i - 1) (omega arith))))

pub returns : goal.returns
returns c =
    let l = c.loop-i in
    let a = c.args in
    let p : a.at + l.i ≡ a.at = omega arith in
    let e : a.count - l.i ≡ a.count = omega arith in
    rw (p, e) at l.invariant
