-- The ciphers (document 01, "Cipher, small" and "Cipher, large"), over any inner function of the round's number.
use Rattle.std.specs.Prelude.{ℕ, ◌+◌, ◌*◌, List}
use Rattle.words.specs.Words.{times, four_at, xor4, round_of, zero4}
use Rattle.family.specs.Family.{rounds}
use Rattle.family.specs.declared.Family.TheVariants.{Small, Large}
use Rattle.compress.specs.declared.cipher.Halves.{Halves}
use Rattle.compress.specs.declared.cipher.Quarters.{Quarters}

-- (L, R) becomes (R, L xor F(R)).
unfoldable pub halves_round : (ℕ → List ℕ → List ℕ) → ℕ → Halves → Halves
halves_round F k s = record { left = s.right; right = xor4 s.left (F k s.right) }

-- (L, A, B, R) becomes (R, L xor F(A), A, B xor F'(R)).
unfoldable pub quarters_round : (ℕ → List ℕ → List ℕ) → (ℕ → List ℕ → List ℕ) → ℕ → Quarters → Quarters
quarters_round F F' k s = record { l = s.r; a = xor4 s.l (F k s.a); b = s.a; r = xor4 s.b (F' k s.r) }

-- F xors the first subkey (whitening), then runs AES rounds under the following subkeys, `keys` of them, and a last one under zero. Its subkeys are the
-- expanded words from place i.
unfoldable pub inner_of : ℕ → List ℕ → ℕ → List ℕ → List ℕ
inner_of keys w i x = round_of (times keys (λ j y. round_of y (four_at w (i + 4 + 4 * j))) (xor4 x (four_at w i))) zero4

-- L is chain words 0 to 3, R words 4 to 7. Twelve times; each round uses the next 12 expanded words: three AES rounds under the second subkey, the
-- third and zero.
unfoldable pub small_cipher : List ℕ → List ℕ → Halves
small_cipher w chain = times (rounds Small) (halves_round (λ k. inner_of 2 w (12 * k))) (record { left = four_at chain 0; right = four_at chain 4 })

-- L, A, B, R are the chain's four quarters in order. Fourteen times; F and F' each use 16 words, whitening, three subkeys and a last zero one, over
-- four AES rounds. F takes the first 16 words of the round's 32 and F' the rest.
unfoldable pub large_cipher : List ℕ → List ℕ → Quarters
large_cipher w chain =
    times (rounds Large) (quarters_round (λ k. inner_of 3 w (32 * k)) (λ k. inner_of 3 w (32 * k + 16)))
    (record { l = four_at chain 0; a = four_at chain 4; b = four_at chain 8; r = four_at chain 12 })
