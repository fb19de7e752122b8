-- What a call makes, and the state that it hands back: the one made, or on a refusal the one given (document 01: "a refusal hands back the state it was given").
use Rattle.std.specs.Prelude.{Result, Ok, Err}
use Rattle.answers.specs.declared.refusal.Refusal.{Refusal}
use Rattle.answers.specs.declared.handed.Handed.{Handed}
use Rattle.answers.specs.Refusal.{Answer}

-- what a call makes where its tests accept it, or its refusal
abbrev pub made_if : {A : Type 0} → Answer → A → Result A Refusal
made_if (Ok u) made = Ok made
made_if (Err r) made = Err r

-- the state made, or the refusal and the state given
abbrev pub handed_over : {S : Type 0} → Result S Refusal → S → Handed (Unit {0}) S
handed_over (Ok made) given = record { answer = Ok tt; state = made }
handed_over (Err r) given = record { answer = Err r; state = given }
