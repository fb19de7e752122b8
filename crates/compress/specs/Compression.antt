-- The compression functions (document 01, "Compression"). A chain has 16 words, a block 128 bytes and a salt 64, of which the small family uses the
-- first 8, 64 and 32; the words past its chain are zero.
use Rattle.std.specs.Prelude.{ℕ, List, ◌++◌, replicate}
use Rattle.family.specs.declared.Family.{Family}
use Rattle.family.specs.declared.Family.TheVariants.{Small, Large}
use Rattle.counter.specs.declared.Counter.{Counter}
use Rattle.compress.specs.declared.cipher.Halves.{Halves}
use Rattle.compress.specs.declared.cipher.Quarters.{Quarters}
use Rattle.words.specs.Words.{words_of, four_at, xor4}
use Rattle.compress.specs.Expansion.{expand_of}
use Rattle.compress.specs.Cipher.{small_cipher, large_cipher}

-- Output = chain xor cipher(chain); the output is read back in the order of the chain.
unfoldable pub small_output : List ℕ → Halves → List ℕ
small_output chain s = xor4 (four_at chain 0) s.left ++ (xor4 (four_at chain 4) s.right ++ replicate 8 0)

unfoldable pub large_output : List ℕ → Quarters → List ℕ
large_output chain s =
    xor4 (four_at chain 0) s.l ++ (xor4 (four_at chain 4) s.a ++ (xor4 (four_at chain 8) s.b ++ xor4 (four_at chain 12) s.r))

unfoldable pub compress_of : Family → List ℕ → List ℕ → Counter → List ℕ → List ℕ
compress_of Small chain block c salt = small_output chain (small_cipher (expand_of Small block c (words_of 16 salt)) chain)
compress_of Large chain block c salt = large_output chain (large_cipher (expand_of Large block c (words_of 16 salt)) chain)
