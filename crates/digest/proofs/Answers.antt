-- The answers of begin, add and one-shot: where a test decides, and where none does.
use mathlib.Core.Path.{◌≡◌, ◌∙◌}
use mathlib.Core.Bool.{true, false}
use mathlib.Core.List.{List, []}
use Prim.Native.Nat.{ℕ, ◌+◌, ◌≤◌, ◌<◌}
use native.Mathlib.Nat.{zero-div}
use lib.ListN.{length, replicate}
use lib.Seq.{drop-nil}
use borrow.Author.Tests.{lt-ltb, le-ltb}
use Rattle.family.specs.declared.Family.{Family}
use Rattle.startup.specs.Startup.{start_of}
use Rattle.answers.specs.declared.refusal.Refusal.{Refusal}
use Rattle.answers.specs.declared.refusal.Refusal.TheVariants.{DigestLength, SaltSize, MessageLimit, StateInconsistent}
use Rattle.std.specs.Prelude.{Ok, Err}
use Rattle.family.specs.Family.{family_of}
use Rattle.bits.specs.declared.LastBits.{LastBits}
use Rattle.bits.specs.Message.{Message, message_of}
use Rattle.state.specs.declared.State.{State}
use Rattle.reports.specs.Report.{Report}
use Rattle.state.specs.Bytes.{fill}
use Rattle.finishing.specs.Blocks.{whole_blocks, chain_over, digest_of}
use Rattle.state.specs.State.{limit, allowed, consistent_of}
use Rattle.digest.specs.Running.{state_of}
use Rattle.finishing.specs.Hash.{hash_answer, hash_of, hash_buffer}
use Rattle.digest.specs.Calls.{salt_fits, begin_answer, add_answer, one_shot_answer, one_shot_of, one_shot_buffer}
use Rattle.state.proofs.Filling.{fill_nil}

pub start_made : (m : ℕ) (salt : List ℕ) {f : Family} {chain filled : List ℕ} → f ≡ family_of m → chain ≡ start_of f m → filled ≡ fill 64 salt
    → ◌≡◌ {A = State} (record { family = f; m = m; salt = filled; chain = chain; covered = record { 0 = 0 }; compressed = 0; held = replicate 128 0 }) (state_of m salt [])
unfolding state_of whole_blocks chain_over
start_made m salt ef ec es = rw (ec, ef, es, zero-div, drop-nil, fill_nil)

-- begin
module _ (m : ℕ) (salt : List ℕ) where
  pub begin_length : allowed m ≡ false → begin_answer m salt ≡ Err DigestLength
  unfolding begin_answer
  begin_length h = rw h

  module _ (ok : allowed m ≡ true) {f : Family} (of : f ≡ family_of m) where
    pub begin_salt : salt_fits f salt ≡ false → begin_answer m salt ≡ Err SaltSize
    unfolding begin_answer
    begin_salt h = rw (ok, ← of, h)

    pub begin_in : salt_fits f salt ≡ true → begin_answer m salt ≡ Ok tt
    unfolding begin_answer
    begin_in h = rw (ok, ← of, h)

-- add
module _ (s : State) (xs : List ℕ) where
  pub add_not : consistent_of s ≡ false → add_answer s xs ≡ Err StateInconsistent
  unfolding add_answer
  add_not h = rw h

  module _ (ok : consistent_of s ≡ true) where
    pub add_over : limit < s.covered.0 + length xs → add_answer s xs ≡ Err MessageLimit
    unfolding add_answer
    add_over h = rw (ok, lt-ltb limit (s.covered.0 + length xs) h)

    pub add_in : s.covered.0 + length xs ≤ limit → add_answer s xs ≡ Ok tt
    unfolding add_answer
    add_in h = rw (ok, le-ltb limit (s.covered.0 + length xs) h)

-- one_shot
module _ (m : ℕ) (salt xs : List ℕ) (last : LastBits) (out : List ℕ) where
  abbrev x : Message
  x = message_of xs last

  pub shot_refused : {r : Refusal} → one_shot_answer m salt x out ≡ Err r → ◌≡◌ {A = Report} (Err r) (one_shot_of m salt x out) × (out ≡ one_shot_buffer m salt x out)
  unfolding one_shot_of one_shot_buffer
  shot_refused e = (rw e, rw e)

  pub shot_length : allowed m ≡ false → one_shot_answer m salt x out ≡ Err DigestLength
  unfolding one_shot_answer
  shot_length h = rw h

  module _ (ok : allowed m ≡ true) {f : Family} (of : f ≡ family_of m) where
    pub shot_salt : salt_fits f salt ≡ false → one_shot_answer m salt x out ≡ Err SaltSize
    unfolding one_shot_answer
    shot_salt h = rw (ok, ← of, h)

    module _ (fits : salt_fits f salt ≡ true) where
      same_tests : one_shot_answer m salt x out ≡ hash_answer m x out
      unfolding one_shot_answer hash_answer
      same_tests = rw (ok, ← of, fits)

      -- what fill_salt, starting_value and hash ensure
      pub shot : {filled start : List ℕ} → filled ≡ fill 64 salt → start ≡ start_of f m → {done : Report} {after : List ℕ}
          → done ≡ hash_of m x out → after ≡ hash_buffer m filled start x out → (done ≡ one_shot_of m salt x out) × (after ≡ one_shot_buffer m salt x out)
      unfolding one_shot_of one_shot_buffer hash_of hash_buffer digest_of
      shot es ec e1 e2 = (e1 ∙ rw same_tests, e2 ∙ rw (same_tests, es, ec, of))
