-- The large cipher with its quarters in the chain's place: the words of F change the first of them, those of F' the third, and then all have moved on.
use mathlib.Core.Path.{◌≡◌, ap, ◌∙◌}
use mathlib.Core.List.{List}
use Prim.Native.Nat.{ℕ, zero, suc, ◌+◌, ◌*◌, ◌/◌, ◌%◌}
use native.Mathlib.Omega.{arith}
use native.Mathlib.Decide.{ℕ_discrete}
use lib.ListN.{length}
use lib.Seq.{sets}
use Rattle.words.specs.Words.{times, four_at, xor4}
use Rattle.compress.specs.declared.cipher.Quarters.{Quarters}
use Rattle.compress.specs.Cipher.{quarters_round, inner_of}
use Rattle.compress.proofs.Fours.{fours_stored, fours_kept}
use Rattle.compress.proofs.Growing.{times_more}
use Rattle.compress.proofs.Rounds.{xor_length}
use Rattle.expanded.specs.Places.{quarters_at, place_of}

-- the quarter behind
behind : (p : ℕ) → (p % 16 + 4) % 16 ≡ (p + 4) % 16
behind p = omega arith

module _ (F F' : ℕ → List ℕ → List ℕ) where
  -- a round's first half, after which only the first quarter is done
  abbrev pub halfway : ℕ → ℕ → Quarters → Quarters
  halfway zero k s = s
  halfway (suc m) k s = record { l = xor4 s.l (F k s.a); a = s.a; b = s.b; r = s.r }

  module _ (h u x y : List ℕ) (k : ℕ) (s : Quarters) (n : length h ≡ 16) where
    first_half : ◌≡◌ {A = Quarters} (quarters_at (12 * k) h) s → x ≡ F k (four_at h ((12 * k + 4) % 16)) → y ≡ xor4 (four_at h (12 * k % 16)) x
        → u ≡ sets h (12 * k % 16) y → ◌≡◌ {A = Quarters} (quarters_at (12 * k) u) (halfway 1 k s)
    first_half e f g p =
        let m : length y ≡ 4 = ap (λ (v : List ℕ). length v) g ∙ xor_length (four_at h (12 * k % 16)) x in
        let kept = fours_kept h y (12 * k % 16) m in
        rw (
          ← e,
          p,
          fours_stored h y (12 * k % 16) m (omega arith),
          kept ((12 * k + 4) % 16) (λ t r ht hr z. omega arith),
          kept ((12 * k + 8) % 16) (λ t r ht hr z. omega arith),
          kept ((12 * k + 12) % 16) (λ t r ht hr z. omega arith),
          g,
          f,
        )

    second_half : ◌≡◌ {A = Quarters} (quarters_at (12 * k) h) (halfway 1 k s) → x ≡ F' k (four_at h ((12 * k + 12) % 16)) → y ≡ xor4 (four_at h ((12 * k + 8) % 16)) x
        → u ≡ sets h ((12 * k + 8) % 16) y → ◌≡◌ {A = Quarters} (quarters_at (12 * k + 12) u) (quarters_round F F' k s)
    unfolding quarters_round
    second_half e f g p =
        let to = (12 * k + 8) % 16 in
        let m : length y ≡ 4 = ap (λ (v : List ℕ). length v) g ∙ xor_length (four_at h to) x in
        let kept = fours_kept h y to m in
        let a : (12 * k + 12 + 4) % 16 ≡ 12 * k % 16 = omega arith in
        let b : (12 * k + 12 + 8) % 16 ≡ (12 * k + 4) % 16 = omega arith in
        let c : (12 * k + 12 + 12) % 16 ≡ (12 * k + 8) % 16 = omega arith in
        let el : four_at h (12 * k % 16) ≡ xor4 s.l (F k s.a) = ap (λ (q : Quarters). q.l) e in
        let ea : four_at h ((12 * k + 4) % 16) ≡ s.a = ap (λ (q : Quarters). q.a) e in
        let eb : four_at h to ≡ s.b = ap (λ (q : Quarters). q.b) e in
        let er : four_at h ((12 * k + 12) % 16) ≡ s.r = ap (λ (q : Quarters). q.r) e in
        rw (
          a,
          b,
          c,
          p,
          kept (12 * k % 16) (λ t r ht hr z. omega arith),
          kept ((12 * k + 4) % 16) (λ t r ht hr z. omega arith),
          fours_stored h y to m (omega arith),
          kept ((12 * k + 12) % 16) (λ t r ht hr z. omega arith),
          g,
          f,
          el,
          ea,
          eb,
          er,
        )

-- how the quarters stand before the words from i on
module _ (w : List ℕ) (s : Quarters) where
  abbrev inner : ℕ → List ℕ → List ℕ
  inner k = inner_of 3 w (32 * k)

  abbrev inner' : ℕ → List ℕ → List ℕ
  inner' k = inner_of 3 w (32 * k + 16)

  unfoldable pub Standing : ℕ → List ℕ → Type 0
  Standing i h = ◌≡◌ {A = Quarters} (quarters_at (12 * (i / 32)) h) (halfway inner inner' (i / 16 % 2) (i / 32) (times (i / 32) (quarters_round inner inner') s))

  pub standing_more : (h u x y : List ℕ) (i : ℕ) → length h ≡ 16 → i % 16 ≡ 0 → Standing i h → x ≡ inner_of 3 w i (four_at h ((place_of i + 4) % 16)) → y ≡ xor4 (four_at h (place_of i)) x
      → u ≡ sets h (place_of i) y → Standing (i + 16) u
  unfolding Standing place_of
  standing_more h u x y i n g st f q p = go (ℕ_discrete (i / 16 % 2) 0)
    where
      go : Dec (i / 16 % 2 ≡ 0) → Standing (i + 16) u
      go (yes e) =
          let k : (i + 16) / 32 ≡ i / 32 = omega arith in
          let m : (i + 16) / 16 % 2 ≡ 1 = omega arith in
          let at : (12 * (i / 32) + 8 * (i / 16 % 2)) % 16 ≡ 12 * (i / 32) % 16 = ap (λ (j : ℕ). (12 * (i / 32) + 8 * j) % 16) e ∙ ap (λ (j : ℕ). j % 16) (omega arith) in
          let from = behind (12 * (i / 32)) in
          let word : i ≡ 32 * (i / 32) = omega arith in
          let f' = rw (at, from) at f ∙ ap (λ (j : ℕ). inner_of 3 w j (four_at h ((12 * (i / 32) + 4) % 16))) word in
          rw (k, m) (first_half inner inner' h u x y (i / 32) _ n (rw e at st) f' (rw at at q) (rw at at p))
      go (no e) =
          let k : (i + 16) / 32 ≡ i / 32 + 1 = omega arith in
          let m : (i + 16) / 16 % 2 ≡ 0 = omega arith in
          let now : i / 16 % 2 ≡ 1 = omega arith in
          let at : (12 * (i / 32) + 8 * (i / 16 % 2)) % 16 ≡ (12 * (i / 32) + 8) % 16 = ap (λ (j : ℕ). (12 * (i / 32) + 8 * j) % 16) now in
          let from : ((12 * (i / 32) + 8) % 16 + 4) % 16 ≡ (12 * (i / 32) + 12) % 16 = behind (12 * (i / 32) + 8) ∙ ap (λ (j : ℕ). j % 16) (omega arith) in
          let next : 12 * (i / 32 + 1) ≡ 12 * (i / 32) + 12 = omega arith in
          let word : i ≡ 32 * (i / 32) + 16 = omega arith in
          let f' = rw (at, from) at f ∙ ap (λ (j : ℕ). inner_of 3 w j (four_at h ((12 * (i / 32) + 12) % 16))) word in
          rw (k, m, next, times_more (i / 32) (quarters_round inner inner') s) (second_half inner inner' h u x y (i / 32) _ n (rw now at st) f' (rw at at q) (rw at at p))
