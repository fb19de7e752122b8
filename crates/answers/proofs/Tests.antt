-- What a test tells: of two that both hold, and of one that a call returned.
use mathlib.Core.Path.{◌≡◌, refl, sym, ◌∙◌}
use mathlib.Core.Bool.{Bool, true, false, ◌&&◌, false≢true}

pub and_left : (a b : Bool) → (a && b) ≡ true → a ≡ true
and_left true b h = refl
and_left false b h = h

pub and_right : (a b : Bool) → (a && b) ≡ true → b ≡ true
and_right true b h = h
and_right false b h = absurd (false≢true h)

-- a test that fell and one that held, of what a call returned
pub fell : {t u : Bool} → t ≡ u → t ≡ false → u ≡ false
fell e h = sym e ∙ h

pub held : {t u : Bool} → t ≡ u → t ≡ true → u ≡ true
held e h = sym e ∙ h
