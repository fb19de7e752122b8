-- What agrees with what: a bank agrees with itself, and with no other.
use mathlib.Core.Path.{◌≡◌, refl, sym, ap₂, ◌∙◌}
use mathlib.Core.Bool.{Bool, true, false, cond}
use mathlib.Core.List.{List, ◌++◌}
use Prim.Native.Nat.{ℕ, zero, suc, ◌+◌, ◌*◌, ◌≤◌}
use native.Mathlib.Omega.{arith}
use lib.ListN.{length, drop, drop_of_length-le}
use borrow.Author.Tests.{ne_eqb}
use Rattle.log_answers.specs.declared.reading.Layout.{Layout}
use Rattle.log_answers.specs.declared.checked.Verdict.TheVariants.{NoClaim, Agrees, Differs}
use Rattle.fields.specs.Fields.{same}
use Rattle.layout.specs.Layout.{claims_of}
use Rattle.fields.proofs.Parts.{part_join}
use Rattle.fields.proofs.Comparing.{same_self, same_equal}
use Rattle.records.specs.Records.{register_at}
use Rattle.bootlog.specs.Check.{ends_of, compared, verdict_of}

pub compared_self : (xs : List ℕ) (r n : ℕ) → compared xs xs r n ≡ Agrees
unfolding compared
compared_self xs r zero = refl
compared_self xs r (suc n) = rw (same_self (register_at xs r)) (compared_self xs (suc r) n)

module _ (xs ys : List ℕ) where
  -- banks compared are claimed
  pub compared_claimed : (r n : ℕ) → compared xs ys r n ≡ NoClaim → ⊥
  unfolding compared
  compared_claimed r zero h = let z : ◌≡◌ {A = ℕ} 0 1 = cc in absurd (omega arith)
  compared_claimed r (suc n) h = by (same (register_at xs r) (register_at ys r)) (compared_claimed (suc r) n) h
    where
      by : (t : Bool) → (compared xs ys (suc r) n ≡ NoClaim → ⊥) → cond t (compared xs ys (suc r) n) (Differs r) ≡ NoClaim → ⊥
      by true p h = p h
      by false p h = let z : ◌≡◌ {A = ℕ} 0 1 = cc in absurd (omega arith)

  -- register r, and what stands behind it
  join : (r : ℕ) → register_at xs r ≡ register_at ys r → drop (32 * suc r) xs ≡ drop (32 * suc r) ys → drop (32 * r) xs ≡ drop (32 * r) ys
  unfolding register_at
  join r e f =
      let z : 32 * suc r ≡ 32 * r + 32 = omega arith in
      sym (part_join xs (32 * r) 32) ∙ ap₂ (λ (a b : List ℕ). a ++ b) e (rw z at f) ∙ part_join ys (32 * r) 32

  pub compared_equal : (r n : ℕ) → length xs ≤ 32 * (r + n) → length ys ≤ 32 * (r + n) → compared xs ys r n ≡ Agrees → drop (32 * r) xs ≡ drop (32 * r) ys
  unfolding compared
  compared_equal r zero h g e = rw (drop_of_length-le xs {i = 32 * r} (omega arith), drop_of_length-le ys {i = 32 * r} (omega arith))
  compared_equal r (suc n) h g e =
      by (same (register_at xs r) (register_at ys r)) (same_equal (register_at xs r) (register_at ys r)) (compared_equal (suc r) n (omega arith) (omega arith)) e
    where
      by : (t : Bool) → (t ≡ true → register_at xs r ≡ register_at ys r) → (compared xs ys (suc r) n ≡ Agrees → drop (32 * suc r) xs ≡ drop (32 * suc r) ys)
          → cond t (compared xs ys (suc r) n) (Differs r) ≡ Agrees → drop (32 * r) xs ≡ drop (32 * r) ys
      by true p q e = join r (p refl) (q e)
      by false p q e = let z : ◌≡◌ {A = ℕ} 0 1 = cc in absurd (omega arith)

-- a log with claims is compared
pub verdict_claimed : (log : List ℕ) (at : Layout) → (at.claims ≡ 0 → ⊥) → verdict_of log at ≡ compared (ends_of log at) (claims_of log at) 0 at.registers
unfolding verdict_of
verdict_claimed log at some = rw (ne_eqb at.claims 0 some)
