-- When a promise leaves a call only one outcome. An outcome is the call's result, or a pair: the result and what its lent buffer holds afterwards.
use Rattle.std.specs.Prelude.{◌≡◌}

-- Two outcomes that both keep the promise are equal.
unfoldable pub OneOutcome : {A : Type 0} → (A → Type 0) → Type 0
OneOutcome {A} promise = (o p : A) → promise o → promise p → o ≡ p
