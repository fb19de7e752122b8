-- Each public call of `state`, `padding`, `finishing` and `digest` has only one outcome: its result, and the buffer of those that write.
use mathlib.Core.Path.{◌≡◌}
use mathlib.Core.Bool.{Bool, cond}
use mathlib.Core.List.{List, ◌++◌}
use Prim.Native.Nat.{ℕ, ◌%◌}
use lib.Dec.{eqb, leb}
use lib.ListN.{drop}
use lib.Seq.{sets}
use Rattle.outcome.specs.Outcome.{OneOutcome}
use Rattle.outcome.proofs.Outcome.{one, one_pair}
use Rattle.family.specs.declared.Family.{Family}
use Rattle.family.specs.Family.{block_bytes, pad_limit, length_place, length_bytes}
use Rattle.fields.specs.Fields.{le, bytes_of}
use Rattle.bits.specs.declared.LastBits.{LastBits}
use Rattle.bits.specs.Bits.{first_bits}
use Rattle.bits.specs.Message.{Message}
use Rattle.state.specs.declared.State.{State}
use Rattle.digest.specs.Calls.{Step}
use Rattle.reports.specs.Report.{Report}
use Rattle.finishing.specs.Finish.{Finished}
use Rattle.state.specs.Bytes.{all_zero}
use Rattle.state.specs.State.{allowed, consistent_of, zero_state}
use Rattle.digest.specs.Calls.{begin_of, add_of, one_shot_of, one_shot_buffer}
use Rattle.finishing.specs.Finish.{finish_of, finish_buffer}
use Rattle.finishing.specs.Hash.{hash_of, hash_buffer}

pub begin_one : (m : ℕ) (salt : List ℕ) → OneOutcome (λ (r : Step). r ≡ begin_of m salt)
begin_one m salt = one (begin_of m salt)

pub add_one : (s : State) (xs : List ℕ) → OneOutcome (λ (r : Step). r ≡ add_of s xs)
add_one s xs = one (add_of s xs)

pub finish_one : (s : State) (last : LastBits) (out : List ℕ)
    → OneOutcome (λ (o : Finished × List ℕ). (o.0 ≡ finish_of s last out) × (o.1 ≡ finish_buffer s last out))
finish_one s last out = one_pair (finish_of s last out) (finish_buffer s last out)

pub one_shot_one : (m : ℕ) (salt : List ℕ) (x : Message) (out : List ℕ)
    → OneOutcome (λ (o : Report × List ℕ). (o.0 ≡ one_shot_of m salt x out) × (o.1 ≡ one_shot_buffer m salt x out))
one_shot_one m salt x out = one_pair (one_shot_of m salt x out) (one_shot_buffer m salt x out)

-- the parts of a message's end: `last_counter`, `ends_in_one`, `with_length`, and what `put_digest` leaves
pub last_counter_one : (rest bits : ℕ) → OneOutcome (λ (r : ℕ). r ≡ cond (eqb rest 0) 0 bits)
last_counter_one rest bits = one (cond (eqb rest 0) 0 bits)

pub ends_in_one_one : (f : Family) (rest : ℕ) → OneOutcome (λ (r : Bool). r ≡ leb rest (pad_limit f))
ends_in_one_one f rest = one (leb rest (pad_limit f))

pub with_length_one : (block : List ℕ) (f : Family) (bits m : ℕ) → OneOutcome (λ (r : List ℕ). r ≡ sets block (length_place f) (le (length_bytes f) bits ++ le 2 m))
with_length_one block f bits m = one (sets block (length_place f) (le (length_bytes f) bits ++ le 2 m))

pub put_digest_one : (chain : List ℕ) (m : ℕ) (out : List ℕ) → OneOutcome (λ (r : List ℕ). r ≡ sets out 0 (first_bits m (bytes_of chain)))
put_digest_one chain m out = one (sets out 0 (first_bits m (bytes_of chain)))

pub hash_one : (m : ℕ) (salt start : List ℕ) (x : Message) (out : List ℕ)
    → OneOutcome (λ (o : Report × List ℕ). (o.0 ≡ hash_of m x out) × (o.1 ≡ hash_buffer m salt start x out))
hash_one m salt start x out = one_pair (hash_of m x out) (hash_buffer m salt start x out)

pub consistent_one : (s : State) → OneOutcome (λ (r : Bool). r ≡ consistent_of s)
consistent_one s = one (consistent_of s)

pub allowed_one : (m : ℕ) → OneOutcome (λ (r : Bool). r ≡ allowed m)
allowed_one m = one (allowed m)

-- `held_bytes`
pub held_bytes_one : (f : Family) (covered : ℕ) → OneOutcome (λ (r : ℕ). r ≡ covered % block_bytes f)
held_bytes_one f covered = one (covered % block_bytes f)

-- `zero_from`
pub zero_from_one : (xs : List ℕ) (at : ℕ) → OneOutcome (λ (r : Bool). r ≡ all_zero (drop at xs))
zero_from_one xs at = one (all_zero (drop at xs))

pub zero_state_one : OneOutcome (λ (r : State). r ≡ zero_state)
zero_state_one = one zero_state
