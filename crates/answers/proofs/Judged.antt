-- A call's tests in their order.
use mathlib.Core.Path.{◌≡◌, refl}
use mathlib.Core.Bool.{Bool, true, false}
use mathlib.Core.List.{List, [], ◌∷◌, ◌++◌}
use Prim.Native.Nat.{ℕ}
use native.Mathlib.Omega.{arith}
use Rattle.answers.specs.declared.refusal.Refusal.{Refusal}
use Rattle.std.specs.Prelude.{Ok}
use Rattle.answers.specs.Refusal.{judged, first_of}

-- Of two lists of tests, one behind the other, the first refusal counts.
pub judged_first : (ts us : List (Bool × Refusal)) → judged (ts ++ us) ≡ first_of (judged ts) (judged us)
judged_first [] us = refl
judged_first ((true, r) ∷ ts) us = refl
judged_first ((false, r) ∷ ts) us = judged_first ts us

-- One test: where the call is accepted, it fell and the others are accepted.
pub test_passed : (t : Bool) (r : Refusal) (ts : List (Bool × Refusal)) → judged ((t, r) ∷ ts) ≡ Ok tt → (t ≡ false) × (judged ts ≡ Ok tt)
test_passed false r ts h = (refl, h)
test_passed true r ts h =
    let z : ◌≡◌ {A = ℕ} 0 1 = cc in
    absurd (omega arith)
