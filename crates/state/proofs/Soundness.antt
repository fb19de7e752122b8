-- What consistent says of a state, fact by fact.
use mathlib.Core.Path.{◌≡◌, sym}
use mathlib.Core.Bool.{true, ◌&&◌}
use Prim.Native.Nat.{◌+◌, ◌*◌, ◌/◌, ◌%◌, ◌≤◌, ◌<◌}
use native.Mathlib.Omega.{arith}
use native.Mathlib.Nat.{div-add-mod', mod-lt, div-eq_of_lt-le}
use lib.Dec.{eqb, leb}
use lib.ListN.{drop}
use borrow.Author.Tests.{leb-true, eqb-true, le-leb, eq-eqb}
use Rattle.family.specs.Family.{block_bytes, chain_words, salt_bytes}
use Rattle.state.specs.declared.State.{State}
use Rattle.state.specs.Bytes.{all_zero}
use Rattle.state.specs.State as state
use Rattle.state.specs.State.{limit, zero_past, consistent_of}
use Rattle.family.proofs.Sizes.{block_pos}
use Rattle.answers.proofs.Tests.{and_left, and_right}

pub record Sound (s : State) : Type 0 where
  pub allowed : state.allowed s.m ≡ true
  pub belongs : state.belongs s.family s.m ≡ true
  pub within : s.covered.0 ≤ limit
  pub whole : s.covered.0 ≡ s.compressed * block_bytes s.family + s.covered.0 % block_bytes s.family
  pub below : s.covered.0 % block_bytes s.family < block_bytes s.family
  pub rest : all_zero (drop (s.covered.0 % block_bytes s.family) s.held) ≡ true
  pub salted : all_zero (drop (salt_bytes s.family) s.salt) ≡ true
  pub chained : all_zero (drop (chain_words s.family) s.chain) ≡ true

module _ (s : State) where
  pub sound : consistent_of s ≡ true → Sound s
  unfolding consistent_of zero_past
  sound h =
      let b = block_bytes s.family in
      let t1 = state.allowed s.m in
      let t2 = state.belongs s.family s.m in
      let t3 = leb s.covered.0 limit in
      let t4 = eqb s.compressed (s.covered.0 / b) in
      let t5 = all_zero (drop (s.covered.0 % b) s.held) in
      let t6 = all_zero (drop (salt_bytes s.family) s.salt) in
      let t7 = all_zero (drop (chain_words s.family) s.chain) in
      let h4 = and_left (t1 && t2 && t3 && t4) (t5 && t6 && t7) h in
      let h3 = and_left (t1 && t2 && t3) t4 h4 in
      let h2 = and_left (t1 && t2) t3 h3 in
      let z = and_right (t1 && t2 && t3 && t4) (t5 && t6 && t7) h in
      let z2 = and_left (t5 && t6) t7 z in
      let q : s.compressed ≡ s.covered.0 / b = eqb-true _ _ (and_right (t1 && t2 && t3) t4 h4) in
      record {
        allowed = and_left t1 t2 h2;
        belongs = and_right t1 t2 h2;
        within = leb-true _ _ (and_right (t1 && t2) t3 h3);
        whole = sym (rw (← q) at (div-add-mod' s.covered.0 b));
        below = mod-lt s.covered.0 (block_pos s.family);
        rest = and_left t5 t6 z2;
        salted = and_right t5 t6 z2;
        chained = and_right (t5 && t6) t7 z;
      }

  pub consistent_of_lem : Sound s → consistent_of s ≡ true
  unfolding consistent_of zero_past
  consistent_of_lem ok =
      let q : s.covered.0 / block_bytes s.family ≡ s.compressed = div-eq_of_lt-le (block_bytes s.family) (omega (arith, ok.whole)) (omega (arith, ok.whole, ok.below)) in
      rw (ok.allowed, ok.belongs, le-leb _ _ ok.within, eq-eqb _ _ (sym q), ok.rest, ok.salted, ok.chained)
