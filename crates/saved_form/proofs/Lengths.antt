-- How long the sections of a form are, and the form.
use mathlib.Core.Path.{◌≡◌}
use mathlib.Core.List.{List, ◌++◌}
use Prim.Native.Nat.{ℕ, ◌+◌, ◌*◌, ◌%◌, ◌<◌}
use native.Mathlib.Omega.{arith}
use native.Mathlib.Nat.{mod-lt}
use lib.ListN.{length, take, length-append}
use lib.Seq.{length-take-le}
use Rattle.family.specs.declared.Family.{Family}
use Rattle.family.specs.Family.{family_number, block_bytes, chain_words, salt_bytes}
use Rattle.fields.specs.Fields.{le, bytes_of}
use Rattle.state.specs.declared.State.{State}
use Rattle.saved_form.specs.Sized.{Sized}
use Rattle.saved_form.specs.Form.{salt_words, parameter_section, salt_section, chain_section, covered_section, held_section, form_of, salt_place, held_start}
use Rattle.family.proofs.Sizes.{words_max, salt_max, block_pos, block_max}
use Rattle.fields.proofs.Numbers.{le_length, bytes_length}
use Rattle.fields.proofs.There.{section_length}

-- ---- the sections' contents
pub parameters_size : (f : Family) (m : ℕ) → length (le 2 (family_number f) ++ le 2 m) ≡ 4
parameters_size f m = omega (arith, length-append (le 2 (family_number f)) (le 2 m), le_length 2 (family_number f), le_length 2 m)

pub rest_below : (s : State) → s.covered.0 % block_bytes s.family < block_bytes s.family
rest_below s = mod-lt s.covered.0 (block_pos s.family)

module _ (s : State) (sized : Sized s) where
  pub salt_size : length (take (salt_bytes s.family) s.salt) ≡ salt_bytes s.family
  salt_size = length-take-le (salt_bytes s.family) s.salt (omega (arith, sized.salt, salt_max s.family))

  pub words_count : length (take (chain_words s.family) s.chain) ≡ chain_words s.family
  words_count = length-take-le (chain_words s.family) s.chain (omega (arith, sized.chain, words_max s.family))

  pub chain_size : length (bytes_of (take (chain_words s.family) s.chain)) ≡ 4 * chain_words s.family
  chain_size = omega (arith, bytes_length (take (chain_words s.family) s.chain), words_count)

  pub held_size : length (take (s.covered.0 % block_bytes s.family) s.held) ≡ s.covered.0 % block_bytes s.family
  held_size = length-take-le (s.covered.0 % block_bytes s.family) s.held (omega (arith, sized.held, rest_below s, block_max s.family))

-- ---- the sections
pub parameters_length : (f : Family) (m : ℕ) → length (parameter_section f m) ≡ salt_place
unfolding parameter_section
parameters_length f m = section_length 2 (le 2 (family_number f) ++ le 2 m) 4 (parameters_size f m)

pub covered_length : (n : ℕ) → length (covered_section n) ≡ 2 + 8
unfolding covered_section
covered_length n = section_length 1 (le 8 n) 8 (le_length 8 n)

module _ (s : State) (sized : Sized s) where
  abbrev f : Family
  f = s.family

  abbrev rest : ℕ
  rest = s.covered.0 % block_bytes f

  pub salt_length : length (salt_section f s.salt) ≡ 2 + salt_bytes f
  unfolding salt_section
  salt_length = section_length (salt_words f) (take (salt_bytes f) s.salt) (salt_bytes f) (salt_size s sized)

  pub chain_length : length (chain_section f s.chain) ≡ 2 + 4 * chain_words f
  unfolding chain_section
  chain_length = section_length (chain_words f) (bytes_of (take (chain_words f) s.chain)) (4 * chain_words f) (chain_size s sized)

  held_length : length (held_section rest s.held) ≡ 2 + rest
  unfolding held_section
  held_length = section_length rest (take rest s.held) rest (held_size s sized)

  -- five lists, one behind the other
  five_length : (a b c d e : List ℕ) → length (a ++ (b ++ (c ++ (d ++ e)))) ≡ length a + (length b + (length c + (length d + length e)))
  five_length a b c d e = simp length-append

  pub form_length : length (form_of s) ≡ held_start f + rest
  unfolding form_of
  form_length = rw (five_length, parameters_length f s.m, salt_length, chain_length, covered_length s.covered.0, held_length) (omega arith)
