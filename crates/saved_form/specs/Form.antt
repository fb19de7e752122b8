-- The saved form of a running state (document 02, One): sections in order, each after a 2-byte count. All numbers are little-endian, and words have 4 bytes.
use Rattle.std.specs.Prelude.{List, ◌++◌, ℕ, ◌+◌, ◌*◌, ◌/◌, ◌%◌, take}
use Rattle.family.specs.declared.Family.{Family}
use Rattle.family.specs.declared.Family.TheVariants.{Small, Large}
use Rattle.family.specs.Family.{family_number, block_bytes, chain_words, salt_bytes}
use Rattle.fields.specs.Fields.{le, bytes_of, section}
use Rattle.state.specs.declared.State.{State}

-- the words of a salt
abbrev pub salt_words : Family → ℕ
salt_words f = salt_bytes f / 4

-- "parameters (2 numbers of 2 bytes: family 0 or 1, m)"
unfoldable pub parameter_section : Family → ℕ → List ℕ
parameter_section f m = section 2 (le 2 (family_number f) ++ le 2 m)

-- "salt words": a word's byte 0 comes first, so they are the salt's bytes
unfoldable pub salt_section : Family → List ℕ → List ℕ
salt_section f salt = section (salt_words f) (take (salt_bytes f) salt)

-- "chain words"
unfoldable pub chain_section : Family → List ℕ → List ℕ
chain_section f chain = section (chain_words f) (bytes_of (take (chain_words f) chain))

-- "covered (1 number of 8 bytes)"
unfoldable pub covered_section : ℕ → List ℕ
covered_section covered = section 1 (le 8 covered)

-- "held bytes", of which there are as many as their count. "The held count is covered mod the block size."
unfoldable pub held_section : ℕ → List ℕ → List ℕ
held_section rest held = section rest (take rest held)

-- the form: blocks compressed is not in it
unfoldable pub form_of : State → List ℕ
form_of s =
    parameter_section s.family s.m
    ++ (salt_section s.family s.salt
    ++ (chain_section s.family s.chain
    ++ (covered_section s.covered.0
    ++ held_section (s.covered.0 % block_bytes s.family) s.held)))

-- Where each section's count stands, the first at 0; and where the held bytes do.
abbrev pub salt_place : ℕ
salt_place = 6

abbrev pub chain_place : Family → ℕ
chain_place f = salt_place + 2 + salt_bytes f

abbrev pub covered_place : Family → ℕ
covered_place f = chain_place f + 2 + 4 * chain_words f

abbrev pub held_place : Family → ℕ
held_place f = covered_place f + 2 + 8

abbrev pub held_start : Family → ℕ
held_start f = held_place f + 2

-- the length of a family's longest form
abbrev pub longest_form : Family → ℕ
longest_form Small = 149
longest_form Large = 277
