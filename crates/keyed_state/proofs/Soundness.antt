-- What consistent says of a keyed state, fact by fact.
use mathlib.Core.Path.{◌≡◌}
use mathlib.Core.Bool.{true, ◌&&◌}
use Prim.Native.Nat.{◌%◌, ◌≤◌}
use lib.Dec.{eqb, leb}
use lib.ListN.{drop}
use borrow.Author.Tests.{leb-true, eqb-true, le-leb, eq-eqb}
use Rattle.family.specs.Family.{block_bytes}
use Rattle.state.specs.Bytes.{all_zero}
use Rattle.state.specs.State.{consistent_of}
use Rattle.answers.proofs.Tests.{and_left, and_right}
use Rattle.keyed_state.specs.declared.Keyed.{Keyed}
use Rattle.keyed_state.specs.Keyed.{keyed_consistent}

pub record KeyedSound (k : Keyed) : Type 0 where
  pub inner : consistent_of k.inner ≡ true
  pub whole_bytes : k.inner.m % 8 ≡ 0
  pub unsalted : all_zero k.inner.salt ≡ true
  pub block : block_bytes k.inner.family ≤ k.inner.covered.0
  pub padded : all_zero (drop (block_bytes k.inner.family) k.key) ≡ true

module _ (k : Keyed) where
  pub keyed_sound : keyed_consistent k ≡ true → KeyedSound k
  unfolding keyed_consistent
  keyed_sound h =
      let b = block_bytes k.inner.family in
      let t1 = consistent_of k.inner in
      let t2 = eqb (k.inner.m % 8) 0 in
      let t3 = all_zero k.inner.salt in
      let t4 = leb b k.inner.covered.0 in
      let t5 = all_zero (drop b k.key) in
      let h4 = and_left (t1 && t2 && t3 && t4) t5 h in
      let h3 = and_left (t1 && t2 && t3) t4 h4 in
      let h2 = and_left (t1 && t2) t3 h3 in
      record {
        inner = and_left t1 t2 h2;
        whole_bytes = eqb-true _ _ (and_right t1 t2 h2);
        unsalted = and_right (t1 && t2) t3 h3;
        block = leb-true _ _ (and_right (t1 && t2 && t3) t4 h4);
        padded = and_right (t1 && t2 && t3 && t4) t5 h;
      }

  pub keyed_consistent_of : KeyedSound k → keyed_consistent k ≡ true
  unfolding keyed_consistent
  keyed_consistent_of ok = rw (ok.inner, eq-eqb _ _ ok.whole_bytes, ok.unsalted, le-leb _ _ ok.block, ok.padded)
