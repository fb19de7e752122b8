-- A longer key is put as its digest, any other as it is, each in front of zeros.
use mathlib.Core.Path.{◌≡◌, ap, ◌∙◌}
use mathlib.Core.Bool.{true}
use mathlib.Core.List.{List, [], ◌++◌, append-nil}
use Prim.Native.Nat.{ℕ, ◌≤◌, ◌<◌}
use native.Mathlib.Omega.{arith}
use lib.ListN.{length, replicate}
use lib.Seq.{sets}
use Rattle.family.specs.Family.{family_of, block_bytes}
use Rattle.family.proofs.Sizes.{block_max}
use Rattle.state.specs.Bytes.{fill}
use Rattle.state.specs.State.{allowed}
use Rattle.state.proofs.Filling.{fill_length}
use Rattle.finishing.proofs.Held.{put_filled}
use Rattle.keyed.specs.Hmac.{B, h_of, K0}
use Rattle.keyed.proofs.Hmac.{hash_max, key_short, key_long}
use Rattle.keyed.proofs.hashing.Hash.padded.Goals as goal

long : (m : ℕ) (K : List ℕ) → allowed m ≡ true → B m < length K → {short block : List ℕ} → short ≡ fill 64 (h_of m (K ++ [])) → block ≡ sets (replicate 128 0) 0 short
    → block ≡ fill 128 (K0 m K)
long m K ok h {short} e p =
    let f : short ≡ fill 64 (h_of m K) = rw append-nil at e in
    let l : length short ≡ 64 = ap length f ∙ fill_length 64 (h_of m K) (hash_max m K ok K) in
    put_filled 128 short (omega arith) p ∙ rw f (key_long m K ok h)

pub returns-then-key-block_bytes : goal.returns-then-key-block_bytes
returns-then-key-block_bytes c =
    let size : c.block_bytes.result ≡ B c.args.self.m = c.block_bytes.ensures ∙ ap block_bytes c.of.ensures in
    let m = c.args.self.m in
    let K = c.args.key.now in
    long m K c.args.self.known (omega (arith, c.if-key-block_bytes.true, size)) c.joined.ensures c.filled.ensures

pub returns : goal.returns
returns c =
    let size : c.block_bytes.result ≡ B c.args.self.m = c.block_bytes.ensures ∙ ap block_bytes c.of.ensures in
    let m = c.args.self.m in
    let K = c.args.key.now in
    let h : length K ≤ B m = omega (arith, c.if-key-block_bytes.false, size) in
    put_filled 128 K (omega (arith, h, block_max (family_of m))) c.filled-2.ensures ∙ key_short m K h
