-- The state that the reader makes of a form.
use mathlib.Core.Path.{◌≡◌}
use mathlib.Core.List.{List}
use Prim.Native.Nat.{ℕ, ◌+◌, ◌/◌, ◌≤◌}
use native.Mathlib.Omega.{arith}
use lib.ListN.{take, drop, replicate, length-take}
use lib.Seq.{sets}
use Rattle.family.specs.declared.Family.{Family}
use Rattle.family.specs.Family.{block_bytes, chain_words, salt_bytes}
use Rattle.fields.specs.Fields.{number_at}
use Rattle.state.specs.declared.State.{State}
use Rattle.state.specs.Bytes.{fill}
use Rattle.saved_form.specs.Form.{chain_place, held_place}
use Rattle.loading.specs.Reading.{family_in, covered_in, rest_in, words_in, state_in}
use Rattle.family.proofs.Sizes.{salt_max}
use Rattle.finishing.proofs.Held.{put_filled}
use Rattle.loading.proofs.Bounds.{rest_max}

-- a part put into zeros
part_filled : (k n : ℕ) (l : List ℕ) → n ≤ k → {part b : List ℕ} → part ≡ take n l → b ≡ sets (replicate k 0) 0 part → b ≡ fill k (take n l)
part_filled k n l h e p = put_filled k (take n l) (omega (arith, length-take n l)) (rw e at p)

module _ (form : List ℕ) {family : Family} (of : family ≡ family_in form) {m : ℕ} (em : m ≡ number_at form 4) {covered : ℕ} (ec : covered ≡ covered_in form)
    {size : ℕ} (es : size ≡ block_bytes family) {rest : ℕ} (er : rest ≡ rest_in form) where
  pub state_made : {salts : ℕ} {part salt : List ℕ} → salts ≡ salt_bytes family → part ≡ take salts (drop 8 form) → salt ≡ sets (replicate 64 0) 0 part
      → {at count : ℕ} {chain : List ℕ} → at ≡ chain_place family → count ≡ chain_words family → chain ≡ fill 16 (words_in count form (at + 2))
      → {place : ℕ} {part2 held : List ℕ} → place ≡ held_place family → part2 ≡ take rest (drop (place + 2) form) → held ≡ sets (replicate 128 0) 0 part2
      → ◌≡◌ {A = State} (record { family = family; m = m; salt = salt; chain = chain; covered = record { 0 = covered }; compressed = covered / size; held = held }) (state_in form)
  unfolding state_in
  state_made zs ps s ea en c ep ph h =
      let salted = part_filled 64 (salt_bytes family) (drop 8 form) (salt_max family) (rw zs at ps) s in
      let kept = part_filled 128 (rest_in form) (drop (held_place family + 2) form) (rest_max form) (rw (er, ep) at ph) h in
      rw (salted, c, kept, ea, en, em, ec, es, of)
