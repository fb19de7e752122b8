-- What the calls that store bytes leave.
use mathlib.Core.Path.{◌≡◌, ◌∙◌}
use mathlib.Core.List.{List, ◌++◌}
use Prim.Native.Nat.{ℕ, ◌+◌}
use native.Mathlib.Omega.{arith}
use lib.ListN.{length, replicate}
use lib.Seq.{sets}
use Rattle.family.specs.declared.Family.{Family}
use Rattle.family.specs.Family.{length_place, length_bytes}
use Rattle.fields.specs.Fields.{le, bytes_of}
use Rattle.fields.proofs.Numbers.{le_length, bytes_length}
use Rattle.fields.proofs.Storing.{sets_sets, sets_whole}

-- two numbers stored one behind the other
pub length_stored : (f : Family) (block : List ℕ) (m bits : ℕ) {first r : List ℕ} {p k : ℕ} → p ≡ length_place f → k ≡ length_bytes f
    → first ≡ sets block p (le k bits) → r ≡ sets first (p + k) (le 2 m)
    → r ≡ sets block (length_place f) (le (length_bytes f) bits ++ le 2 m)
length_stored f block m bits ep ek e1 e2 =
    let s = sets_sets block (length_place f) (le (length_bytes f) bits) (le 2 m) in
    e2 ∙ rw (e1, ep, ek) (rw (le_length (length_bytes f) bits) at s)

-- the bytes of a chain fill 64 places
pub spelled : (chain : List ℕ) → length chain ≡ 16 → {b : List ℕ} → b ≡ sets (replicate 64 0) 0 (bytes_of chain) → b ≡ bytes_of chain
spelled chain h e = e ∙ sets_whole (replicate 64 0) (bytes_of chain) (omega (arith, bytes_length chain))
