-- A contract that is an equation leaves only one outcome.
use mathlib.Core.Path.{◌≡◌, ◌∙◌, sym, ap₂}
use Rattle.outcome.specs.Outcome.{OneOutcome}

pub one : {A : Type 0} (x : A) → OneOutcome (λ (r : A). r ≡ x)
unfolding OneOutcome
one x r s p q = p ∙ sym q

-- a result and what a lent buffer holds afterwards
pub one_pair : {A B : Type 0} (x : A) (y : B) → OneOutcome (λ (o : A × B). (o.0 ≡ x) × (o.1 ≡ y))
unfolding OneOutcome
one_pair {A} {B} x y o p q r = ap₂ (λ (a : A) (b : B). (a, b)) (q.0 ∙ sym r.0) (q.1 ∙ sym r.1)
