-- The tests are the rule's, in its order; then the chain is taken over all blocks, and its first m bits are put.
use mathlib.Core.Path.{◌≡◌}
use mathlib.Core.Bool.{true}
use Rattle.bits.specs.Bits.{last_fits}
use Rattle.state.specs.State.{allowed}
use Rattle.answers.proofs.Tests.{fell, held}
use Rattle.finishing.proofs.Hashing.{hash_refused, hash_length, hash_over, hash_unfit, hash_short, hashed}
use Rattle.finishing.proofs.hash.Goals as goal

pub returns-then-not-is_allowed : goal.returns-then-not-is_allowed
returns-then-not-is_allowed c =
    let a = c.args in let both = hash_refused _ a.salt.now a.start.now _ a.last a.out.now
    (hash_length _ a.salt.now a.start.now _ a.last a.out.now (fell c.is_allowed.ensures c.if-not-is_allowed.true)) in
    record { result = both.0; buffer = both.1 }

pub returns-then-bytes-gt-LIMIT : goal.returns-then-bytes-gt-LIMIT
returns-then-bytes-gt-LIMIT c =
    let ok : allowed c.args.m ≡ true = held c.is_allowed.ensures c.if-not-is_allowed.false in
    let a = c.args in let both = hash_refused _ a.salt.now a.start.now _ a.last a.out.now
    (hash_over a.m a.salt.now a.start.now a.bytes.now a.last a.out.now ok c.if-bytes-gt-LIMIT.true) in
    record { result = both.0; buffer = both.1 }

pub returns-then-not-fits : goal.returns-then-not-fits
returns-then-not-fits c =
    let ok : allowed c.args.m ≡ true = held c.is_allowed.ensures c.if-not-is_allowed.false in
    let a = c.args in let both = hash_refused _ a.salt.now a.start.now _ a.last a.out.now
    (hash_unfit a.m a.salt.now a.start.now a.bytes.now a.last a.out.now ok c.if-bytes-gt-LIMIT.false (fell c.fits.ensures c.if-not-fits.true)) in
    record { result = both.0; buffer = both.1 }

pub returns-then-out-digest_bytes : goal.returns-then-out-digest_bytes
returns-then-out-digest_bytes c =
    let ok : allowed c.args.m ≡ true = held c.is_allowed.ensures c.if-not-is_allowed.false in
    let fits : last_fits c.args.last ≡ true = held c.fits.ensures c.if-not-fits.false in
    let a = c.args in let both = hash_refused _ a.salt.now a.start.now _ a.last a.out.now
    (hash_short a.m a.salt.now a.start.now a.bytes.now a.last a.out.now ok c.if-bytes-gt-LIMIT.false fits c.digest_bytes.ensures c.if-out-digest_bytes.true) in
    record { result = both.0; buffer = both.1 }

pub invariant_of-chained : goal.invariant_of-chained
invariant_of-chained c = record { fit = held c.fits.ensures c.if-not-fits.false }

pub chained-all-requires : goal.chained-all-requires
chained-all-requires c = c.if-bytes-gt-LIMIT.false

pub returns : goal.returns
returns c =
    let ok : allowed c.args.m ≡ true = held c.is_allowed.ensures c.if-not-is_allowed.false in
    let fits : last_fits c.args.last ≡ true = held c.fits.ensures c.if-not-fits.false in
    let a = c.args in let both = hashed a.m a.salt.now a.start.now a.bytes.now a.last a.out.now ok c.if-bytes-gt-LIMIT.false fits c.digest_bytes.ensures c.if-out-digest_bytes.false
    c.chained-all.ensures c.put_digest.ensures in
    record { result = both.0; buffer = both.1 }
