-- One round more of the small cipher, for any inner function, and its halves in the chain's place.
use mathlib.Core.Path.{◌≡◌, refl, ap, ◌∙◌}
use mathlib.Core.List.{List, ◌++◌}
use Prim.Native.Nat.{ℕ, zero, suc, ◌+◌, ◌-◌, ◌*◌, ◌/◌, ◌%◌}
use native.Mathlib.Omega.{arith}
use lib.ListN.{length, drop}
use lib.Seq.{sets}
use Rattle.compress.specs.declared.cipher.Halves.{Halves}
use Rattle.family.specs.declared.Family.TheVariants.{Small}
use Rattle.family.specs.Family.{rounds}
use Rattle.counter.specs.declared.Counter.{Counter}
use Rattle.words.specs.Words.{times, four_at, xor4}
use Rattle.compress.specs.Cipher.{halves_round, inner_of, small_cipher}
use Rattle.compress.specs.Compression.{small_output, compress_of}
use Rattle.compress.specs.Window.{small_words, halves_at, halves_in}
use Rattle.compress.proofs.Fours.{four_length, fours_stored, fours_kept, fours_joined, four_drop}
use Rattle.compress.proofs.Growing.{times_more}

module _ (F : ℕ → List ℕ → List ℕ) (k : ℕ) (s : Halves) {l r f n : List ℕ}
    (e : ◌≡◌ {A = Halves} (record { left = l; right = r }) (times k (halves_round F) s)) (hf : f ≡ F k r) (hn : n ≡ xor4 l f) where
  halves_step : ◌≡◌ {A = Halves} (record { left = r; right = n }) (times (k + 1) (halves_round F) s)
  unfolding halves_round
  halves_step = rw (times_more k (halves_round F) s, ← e, hn, hf)

pub xor_length : (x y : List ℕ) → length (xor4 x y) ≡ 4
unfolding xor4
xor_length x y = refl

-- a round on the halves in their place: one is changed, and the two have changed sides
module _ (F : ℕ → List ℕ → List ℕ) (s : Halves) (h u x y : List ℕ) (i : ℕ) (l : length h ≡ 16) (g : i % 12 ≡ 0)
    (e : ◌≡◌ {A = Halves} (halves_at i h) (times (i / 12) (halves_round F) s))
    (f : x ≡ F (i / 12) (four_at h (4 - i % 8))) (n : y ≡ xor4 (four_at h (i % 8)) x) (p : u ≡ sets h (i % 8) y) where
  pub halves_placed : ◌≡◌ {A = Halves} (halves_at (i + 12) u) (times ((i + 12) / 12) (halves_round F) s)
  halves_placed =
      let k : (i + 12) / 12 ≡ i / 12 + 1 = omega arith in
      let a : (i + 12) % 8 ≡ 4 - i % 8 = omega arith in
      let b : 4 - (4 - i % 8) ≡ i % 8 = omega arith in
      let m : length y ≡ 4 = ap (λ (u : List ℕ). length u) n ∙ xor_length (four_at h (i % 8)) x in
      rw (k, a, b, p, fours_stored h y (i % 8) m (omega arith), fours_kept h y (i % 8) m (4 - i % 8) (λ t r ht hr z. omega arith))
      (halves_step F (i / 12) s e f n)

-- sixteen words are their halves and the rest
pub halves_whole : (h : List ℕ) → length h ≡ 16 → h ≡ halves_in (halves_at 0 h) h
halves_whole h n = four_drop h 0 (omega arith) ∙ ap (λ (l : List ℕ). four_at h 0 ++ l) (four_drop h 4 (omega arith))

-- what a cipher leaves are four words each
both_four : (F : ℕ → List ℕ → List ℕ) (s : Halves) → length s.left ≡ 4 → length s.right ≡ 4 → (k : ℕ)
    → (length (times k (halves_round F) s).left ≡ 4) × (length (times k (halves_round F) s).right ≡ 4)
unfolding times halves_round
both_four F s hl hr zero = (hl, hr)
both_four F s hl hr (suc k) = ((both_four F s hl hr k).1, xor_length _ _)

halves_back : (w chain h : List ℕ) → ◌≡◌ {A = Halves} (halves_at 0 (halves_in (small_cipher w chain) h)) (small_cipher w chain)
unfolding small_cipher
halves_back w chain h =
    let s : Halves = record { left = four_at chain 0; right = four_at chain 4 } in
    let n = both_four (λ k. inner_of 2 w (12 * k)) s (four_length chain 0) (four_length chain 4) (rounds Small) in
    let r = (small_cipher w chain).right in
    let first = fours_joined (small_cipher w chain).left (r ++ drop 8 h) n.0 in
    rw (first.0, first.1, (fours_joined r (drop 8 h) n.1).0)

-- the small compression by its two calls
pub fed_window : (chain block : List ℕ) (c : Counter) (salt : List ℕ) {h out : List ℕ} → h ≡ halves_in (small_cipher (small_words block c salt) chain) chain
    → out ≡ small_output chain (halves_at 0 h) → out ≡ compress_of Small chain block c salt
unfolding compress_of
fed_window chain block c salt e f =
    f ∙ ap (λ (h : List ℕ). small_output chain (halves_at 0 h)) e ∙ ap (small_output chain) (halves_back (small_words block c salt) chain chain)
