-- The tests are the rule's, in its order; what is put is the first m bits of the last chain.
-- the length that the type tells
use mathlib.Core.Logic.{inr}
use mathlib.Core.List.{[]}
use mathlib.Core.Path.{◌≡◌, ◌∙◌, ap}
use mathlib.Core.Bool.{true}
use Prim.Native.Nat.{◌*◌}
use native.Mathlib.Omega.{arith}
use lib.ListN.{length}
use Rattle.family.specs.Family.{block_bytes}
use Rattle.family.proofs.Sizes.{block_pos}
use Rattle.counter.specs.Counter.{counter_of}
use Rattle.compress.proofs.Runs.{run_none}
use Rattle.bits.specs.Bits.{last_fits}
use Rattle.state.specs.State.{consistent_of}
use Rattle.state.proofs.Soundness.{Sound, sound}
use Rattle.answers.proofs.Tests.{fell, held}
use Rattle.finishing.specs.Finish.{Finished, held_of, closing}
use Rattle.finishing.proofs.Answers.{closing_max, count_max, finish_not, finish_unfit, finish_short, finish_refused, finished}
use Rattle.finishing.proofs.report.Goals as goal

pub returns-then-not-consistent : goal.returns-then-not-consistent
returns-then-not-consistent c =
    let a = c.args in let both = finish_refused _ a.last a.out.now (finish_not _ a.last a.out.now (fell c.consistent.ensures c.if-not-consistent.true)) in
    record { result = ap (λ (h : Finished). h.answer) both.0; buffer = both.1 }

pub returns-then-not-fits : goal.returns-then-not-fits
returns-then-not-fits c =
    let ok : consistent_of c.args.state ≡ true = held c.consistent.ensures c.if-not-consistent.false in
    let a = c.args in let both = finish_refused _ a.last a.out.now (finish_unfit _ a.last a.out.now ok (fell c.fits.ensures c.if-not-fits.true)) in
    record { result = ap (λ (h : Finished). h.answer) both.0; buffer = both.1 }

pub returns-then-out-digest_bytes : goal.returns-then-out-digest_bytes
returns-then-out-digest_bytes c =
    let ok : consistent_of c.args.state ≡ true = held c.consistent.ensures c.if-not-consistent.false in
    let fits : last_fits c.args.last ≡ true = held c.fits.ensures c.if-not-fits.false in
    let a = c.args in let both = finish_refused _ a.last a.out.now (finish_short _ a.last a.out.now ok fits c.digest_bytes.ensures c.if-out-digest_bytes.true) in
    record { result = ap (λ (h : Finished). h.answer) both.0; buffer = both.1 }

pub invariant_of-close : goal.invariant_of-close
invariant_of-close c = record { fit = held c.fits.ensures c.if-not-fits.false }

pub close-count-requires : goal.close-count-requires
close-count-requires c =
    let ok : consistent_of c.args.state ≡ true = held c.consistent.ensures c.if-not-consistent.false in
    let known : Sound c.args.state = sound _ ok in
    let k = known in
    (k.within, k.rest, inr (block_pos c.args.state.family))

pub overflow_add-result : goal.overflow_add-result
unfolding closing held_of
overflow_add-result c =
    let ok : consistent_of c.args.state ≡ true = held c.consistent.ensures c.if-not-consistent.false in
    let known : Sound c.args.state = sound _ ok in
    let a = c.args in
    omega (arith, c.close-count.ensures.1, closing_max a.state a.last, count_max a.state known)

pub returns : goal.returns
unfolding closing held_of
returns c =
    let sixteen : length c.args.state.chain ≡ 16 = c.well_formed.1.0.1.1.1.1.1.0.1.0.1 in
    let ok : consistent_of c.args.state ≡ true = held c.consistent.ensures c.if-not-consistent.false in
    let fits : last_fits c.args.last ≡ true = held c.fits.ensures c.if-not-fits.false in
    let s = c.args.state in
    let none = run_none s.family s.salt (counter_of (8 * block_bytes s.family)) [] s.chain (block_pos s.family) in let both = finished s c.args.last c.args.out.now ok fits c.digest_bytes.ensures c.if-out-digest_bytes.false sixteen
    (c.close-count.ensures.0 ∙ rw none, c.close-count.ensures.1) c.put_digest.ensures in
    record { result = ap (λ (h : Finished). h.answer) both.0; buffer = both.1 }
