-- HMAC of FIPS 198-1 over the digest: the steps of its section 4 in their order, with its names. K is the key, text the message, both of whole bytes.
use Rattle.std.specs.Prelude.{cond, List, [], ◌∷◌, ◌++◌, ℕ, eqb, ltb, length, replicate}
use Rattle.std.specs.Int.Bits.{bit_xor}
use Rattle.family.specs.Family.{family_of, block_bytes}
use Rattle.bits.specs.Message.{whole}
use Rattle.state.specs.Bytes.{fill}
use Rattle.finishing.specs.Blocks.{digest_of}

-- "B: Block size (in bytes) of the input to the Approved hash function."
abbrev pub B : ℕ → ℕ
B m = block_bytes (family_of m)

-- "H: An Approved hash function.": the digest of m bits under the all-zero salt
unfoldable pub h_of : ℕ → List ℕ → List ℕ
h_of m xs = digest_of (family_of m) m (fill 64 []) (whole xs)

-- a byte repeated b times
unfoldable pub repeated : ℕ → ℕ → List ℕ
repeated b x = replicate b x

-- "ipad: Inner pad; the byte x'36' repeated B times." "opad: Outer pad; the byte x'5c' repeated B times."
abbrev pub ipad : ℕ → List ℕ
ipad b = repeated b 54

abbrev pub opad : ℕ → List ℕ
opad b = repeated b 92

-- "Exclusive-Or operation", byte by byte
infixl 20 ◌⊕◌
unfoldable pub ◌⊕◌ : List ℕ → List ℕ → List ℕ
[] ⊕ ys = []
(x ∷ xs) ⊕ [] = []
(x ∷ xs) ⊕ (y ∷ ys) = bit_xor x y ∷ (xs ⊕ ys)

-- "Step 1: If the length of K = B: set K0 = K. Go to step 4. Step 2: If the length of K > B: hash K to obtain an L byte string, then append (B-L) zeros to
-- create a B-byte string K0. Go to step 4. Step 3: If the length of K < B: append zeros to the end of K to create a B-byte string K0."
unfoldable pub K0 : ℕ → List ℕ → List ℕ
K0 m K = cond (eqb (length K) (B m)) K (cond (ltb (B m) (length K)) (fill (B m) (h_of m K)) (fill (B m) K))

-- "Step 4: Exclusive-Or K0 with ipad to produce a B-byte string. Step 5: Append the stream of data 'text' to the string resulting from step 4."
unfoldable pub inner_text : ℕ → List ℕ → List ℕ → List ℕ
inner_text m K text = (K0 m K ⊕ ipad (B m)) ++ text

-- "Step 6: Apply H to the stream generated in step 5. Step 7: Exclusive-Or K0 with opad. Step 8: Append the result from step 6 to step 7. Step 9: Apply H
-- to the result from step 8": MAC(text) = HMAC(K, text) = H((K0 ⊕ opad) || H((K0 ⊕ ipad) || text)).
unfoldable pub hmac_of : ℕ → List ℕ → List ℕ → List ℕ
hmac_of m K text = h_of m ((K0 m K ⊕ opad (B m)) ++ h_of m (inner_text m K text))
