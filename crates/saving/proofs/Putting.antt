-- What the writer's calls leave in a buffer, a section after the other.
use mathlib.Core.Path.{◌≡◌}
use mathlib.Core.List.{List, ◌++◌}
use Prim.Native.Nat.{ℕ, ◌+◌, ◌/◌, ◌%◌}
use native.Mathlib.Omega.{arith}
use lib.ListN.{take, drop}
use lib.Seq.{sets}
use Rattle.family.specs.declared.Family.{Family}
use Rattle.family.specs.Family.{family_number, block_bytes, chain_words, salt_bytes}
use Rattle.fields.specs.Fields.{le, bytes_of}
use Rattle.state.specs.declared.State.{State}
use Rattle.saved_form.specs.Sized.{Sized}
use Rattle.saved_form.specs.Form.{salt_words, parameter_section, salt_section, chain_section, covered_section, held_section, form_of, salt_place, chain_place, covered_place, held_place}
use Rattle.fields.proofs.Storing.{put_behind}
use Rattle.fields.proofs.There.{section_put}
use Rattle.saved_form.proofs.Lengths.{parameters_length, salt_length, chain_length, covered_length}

module _ (out : List ℕ) where
  pub parameters_put : (f : Family) (m : ℕ) {n : ℕ} → n ≡ family_number f → {a b c : List ℕ}
      → a ≡ sets out 0 (le 2 2) → b ≡ sets a 2 (le 2 n) → c ≡ sets b 4 (le 2 m) → c ≡ sets out 0 (parameter_section f m)
  unfolding parameter_section le
  parameters_put f m e p q r =
      put_behind out 0 4 (le 2 2 ++ le 2 (family_number f)) (le 2 m) (omega arith) (put_behind out 0 2 (le 2 2) (le 2 (family_number f)) (omega arith) p (rw e at q)) r

  pub salt_put : (f : Family) (salt : List ℕ) {size : ℕ} → size ≡ salt_bytes f → {part a b : List ℕ} → part ≡ take size (drop 0 salt)
      → a ≡ sets out salt_place (le 2 (size / 4)) → b ≡ sets a 8 part → b ≡ sets out salt_place (salt_section f salt)
  unfolding salt_section
  salt_put f salt e x p q = section_put out salt_place (salt_words f) (take (salt_bytes f) salt) (rw e at p) (rw (x, e) at q)

  pub chain_put : (f : Family) (chain : List ℕ) {at count : ℕ} → at ≡ chain_place f → count ≡ chain_words f → {a b : List ℕ}
      → a ≡ sets out at (le 2 count) → b ≡ sets a (at + 2) (bytes_of (take count chain)) → b ≡ sets out (chain_place f) (chain_section f chain)
  unfolding chain_section
  chain_put f chain e x p q = section_put out (chain_place f) (chain_words f) (bytes_of (take (chain_words f) chain)) (rw (e, x) at p) (rw (e, x) at q)

  pub covered_put : (f : Family) (covered : ℕ) {at : ℕ} → at ≡ covered_place f → {a b : List ℕ}
      → a ≡ sets out at (le 2 1) → b ≡ sets a (at + 2) (le 8 covered) → b ≡ sets out (covered_place f) (covered_section covered)
  unfolding covered_section
  covered_put f covered e p q = section_put out (covered_place f) 1 (le 8 covered) (rw e at p) (rw e at q)

  pub held_put : (f : Family) (rest : ℕ) (held : List ℕ) {at : ℕ} → at ≡ held_place f → {part a b : List ℕ} → part ≡ take rest (drop 0 held)
      → a ≡ sets out at (le 2 rest) → b ≡ sets a (at + 2) part → b ≡ sets out (held_place f) (held_section rest held)
  unfolding held_section
  held_put f rest held e x p q = section_put out (held_place f) rest (take rest held) (rw e at p) (rw (e, x) at q)

module _ (s : State) (sized : Sized s) where
  abbrev f : Family
  f = s.family

  -- the five sections, each where the one before ends
  pub form_put : (out : List ℕ) {rest : ℕ} → rest ≡ s.covered.0 % block_bytes f → {a b c d e : List ℕ}
      → a ≡ sets out 0 (parameter_section f s.m) → b ≡ sets a salt_place (salt_section f s.salt) → c ≡ sets b (chain_place f) (chain_section f s.chain)
      → d ≡ sets c (covered_place f) (covered_section s.covered.0) → e ≡ sets d (held_place f) (held_section rest s.held)
      → e ≡ sets out 0 (form_of s)
  unfolding form_of
  form_put out r p q u v w =
      let p1 = parameter_section f s.m in
      let p2 = salt_section f s.salt in
      let p3 = chain_section f s.chain in
      let p4 = covered_section s.covered.0 in
      let p5 = held_section (s.covered.0 % block_bytes f) s.held in
      let four = put_behind _ (covered_place f) (held_place f) p4 p5 (omega (arith, covered_length s.covered.0)) v (rw r at w) in
      let three = put_behind _ (chain_place f) (covered_place f) p3 (p4 ++ p5) (omega (arith, chain_length s sized)) u four in
      let two = put_behind _ salt_place (chain_place f) p2 (p3 ++ (p4 ++ p5)) (omega (arith, salt_length s sized)) q three in
      put_behind out 0 salt_place p1 (p2 ++ (p3 ++ (p4 ++ p5))) (omega (arith, parameters_length f s.m)) p two
