-- How large a refusal's number is.
use Prim.Native.Nat.{◌<◌}
use native.Mathlib.Omega.{arith}
use Rattle.answers.specs.declared.refusal.Refusal.{Refusal}
use Rattle.answers.specs.declared.refusal.Refusal.TheVariants.{DigestLength, SaltSize, MessageLimit, StateInconsistent, BufferShort, LogExtent, SectionCount, EventRegister, FormExtent, FormCount, BitsUnfit, KeyLong}
use Rattle.answers.specs.Refusal.{refusal_number}

-- it is printed in two digits at most
pub refusal_small : (x : Refusal) → refusal_number x < 100
refusal_small DigestLength = omega arith
refusal_small SaltSize = omega arith
refusal_small MessageLimit = omega arith
refusal_small StateInconsistent = omega arith
refusal_small BufferShort = omega arith
refusal_small LogExtent = omega arith
refusal_small SectionCount = omega arith
refusal_small EventRegister = omega arith
refusal_small FormExtent = omega arith
refusal_small FormCount = omega arith
refusal_small BitsUnfit = omega arith
refusal_small KeyLong = omega arith
