-- What the tests tell of a text.
use mathlib.Core.Path.{◌≡◌, refl}
use mathlib.Core.Bool.{Bool, true, false, not, cond}
use mathlib.Core.List.{List}
use Prim.Native.Nat.{ℕ, ◌≤◌, ◌<◌}
use lib.ListN.{length}
use borrow.Author.Tests.{eq-eqb, ne_eqb, lt-ltb, le-ltb}
use Rattle.decimal.specs.Decimal.{digits, spelled, number_of}
use Rattle.std.specs.Prelude.{Option, Some, None}

either : (t : Bool) → ◌≡◌ {A = Option ℕ} None (cond (not t) None None)
either true = refl
either false = refl

module _ (text : List ℕ) where
  pub empty : length text ≡ 0 → None ≡ number_of text
  unfolding number_of
  empty h = rw (eq-eqb (length text) 0 h)

  module _ (h : length text ≡ 0 → ⊥) where
    pub no_digits : digits text ≡ false → None ≡ number_of text
    unfolding number_of
    no_digits d = rw (ne_eqb (length text) 0 h, d)

    -- whatever follows the digits so far
    pub over : 65535 < spelled 0 text → None ≡ number_of text
    unfolding number_of
    over g = rw (ne_eqb (length text) 0 h, lt-ltb 65535 (spelled 0 text) g) (either (digits text))

    pub number : digits text ≡ true → {n : ℕ} → spelled 0 text ≡ n → n ≤ 65535 → Some n ≡ number_of text
    unfolding number_of
    number d e g = rw (ne_eqb (length text) 0 h, d, e, le-ltb 65535 _ g)
