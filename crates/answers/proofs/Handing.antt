-- A call that makes a state by its tests hands back the one made or the one given, as they decide.
use mathlib.Core.Path.{◌≡◌, refl}
use Rattle.std.specs.Prelude.{Result, Ok, Err}
use Rattle.answers.specs.declared.refusal.Refusal.{Refusal}
use Rattle.answers.specs.declared.handed.Handed.{Handed}
use Rattle.answers.specs.Refusal.{Answer, if_accepted}
use Rattle.answers.specs.Handed.{made_if, handed_over}

pub handed_made : {S : Type 0} (a : Answer) (made given : S) → handed_over (made_if a made) given ≡ record { answer = a; state = if_accepted a made given }
handed_made (Ok u) made given = refl
handed_made (Err r) made given = refl

-- what a call makes where a test refused, and where none did
pub refused_by : {A : Type 0} {a : Answer} {r : Refusal} (made : A) → a ≡ Err r → ◌≡◌ {A = Result A Refusal} (Err r) (made_if a made)
refused_by made e = rw e

pub made_by : {A : Type 0} {a : Answer} {x made : A} → a ≡ Ok tt → x ≡ made → ◌≡◌ {A = Result A Refusal} (Ok x) (made_if a made)
made_by e h = rw (e, h)
