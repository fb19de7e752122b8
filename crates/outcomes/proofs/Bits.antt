-- Each public call of `bits` has only one outcome.
use mathlib.Core.Path.{◌≡◌}
use mathlib.Core.Bool.{Bool}
use mathlib.Core.List.{List}
use Prim.Native.Nat.{ℕ}
use Rattle.outcome.specs.Outcome.{OneOutcome}
use Rattle.outcome.proofs.Outcome.{one}
use Rattle.bits.specs.declared.LastBits.{LastBits}
use Rattle.bits.specs.Bits.{no_bits, last_fits, marked, digest_bytes, kept}

-- `LastBits::none`
pub none_one : OneOutcome (λ (r : LastBits). r ≡ no_bits)
none_one = one no_bits

-- `LastBits::fits`
pub fits_one : (b : LastBits) → OneOutcome (λ (r : Bool). r ≡ last_fits b)
fits_one b = one (last_fits b)

-- `LastBits::mark`
pub mark_one : (b : LastBits) → OneOutcome (λ (r : ℕ). r ≡ marked b)
mark_one b = one (marked b)

-- `digest_bytes`
pub digest_bytes_one : (m : ℕ) → OneOutcome (λ (r : ℕ). r ≡ digest_bytes m)
digest_bytes_one m = one (digest_bytes m)

-- `keep`
pub keep_one : (m : ℕ) (bytes : List ℕ) → OneOutcome (λ (r : List ℕ). r ≡ kept m bytes)
keep_one m bytes = one (kept m bytes)
