-- The third duty: cuts never matter, coverage is reported, counters never repeat, and no list opens another.
use mathlib.Core.Path.{◌≡◌, ◌∙◌}
use mathlib.Core.Bool.{true}
use mathlib.Core.List.{List, map, ◌++◌}
use Prim.Native.Nat.{ℕ, ◌≤◌}
use lib.ListN.{length, drop, length-map}
use Rattle.family.specs.Family.{family_of}
use Rattle.std.specs.Prelude.{Ok}
use Rattle.reports.specs.Report.{report_number, report_covered, report_bits, report_blocks}
use Rattle.bits.specs.declared.LastBits.{LastBits}
use Rattle.bits.specs.Bits.{last_fits, digest_bytes}
use Rattle.bits.specs.Message.{Message, message_of, bit_length}
use Rattle.bits.proofs.Fitting.{at_most_7}
use Rattle.state.specs.declared.State.{State}
use Rattle.state.specs.Bytes.{fill}
use Rattle.finishing.specs.Blocks.{digest_of}
use Rattle.state.specs.State.{bit_limit, allowed}
use Rattle.state.proofs.Limits.{bits_within}
use Rattle.digest.specs.Running.{state_of}
use Rattle.digest.specs.Calls.{begin_answer, begin_of, one_shot_of, one_shot_buffer}
use Rattle.finishing.specs.Finish.{finish_of, finish_buffer}
use Rattle.digest.proofs.Shot.{begin_accepted}
use Rattle.carried.specs.Moves.{Move, after_moves, joined_by}
use Rattle.carried.proofs.Carries.{moves_joined, moves_length, moves_finish}
use Rattle.counter_lists.specs.Lists.{handed, distinct, Opens}
use Rattle.counter_lists.proofs.Counters.{counters_distinct}
use Rattle.counter_lists.proofs.Openings.{lists_apart}
use Rattle.duties.proofs.Two.{digest_right, counts_right}

-- From an accepted start, after any moves: adds in any cuts, empty and refused ones too, finishes with any last bits, saves, and carries (a form saved, and
-- what is read back gone on with).
module _ (m : ℕ) (salt : List ℕ) (start : begin_answer m salt ≡ Ok tt) (moves : List Move) where
  abbrev s : State
  s = after_moves (begin_of m salt).state moves

  -- the accepted bytes, joined
  abbrev xs : List ℕ
  xs = joined_by (begin_of m salt).state moves

  -- The state depends only on salt, digest length and the accepted bytes joined.
  pub state_depends : s ≡ state_of m salt xs
  state_depends = moves_joined m salt start moves

  -- last bits that fit, and the message that they end
  module _ (last : LastBits) (fits : last_fits last ≡ true) where
    abbrev x : Message
    x = message_of xs last

    within : bit_length x ≤ bit_limit
    within = bits_within (length xs) last.count (moves_length m salt start moves) (at_most_7 last fits)

    module _ (out : List ℕ) (room : digest_bytes m ≤ length out) where
      one_shot_lem : ((finish_of s last out).answer ≡ one_shot_of m salt x out) × (finish_buffer s last out ≡ one_shot_buffer m salt x out)
      one_shot_lem = moves_finish m salt start moves last out

      right : (report_number (one_shot_of m salt x out) ≡ 0) × (one_shot_buffer m salt x out ≡ digest_of (family_of m) m (fill 64 salt) x ++ drop (digest_bytes m) out)
      right = digest_right m salt x out (begin_accepted m salt start).0 (begin_accepted m salt start).1 within fits room

      -- Its digest is demand 2's for them.
      pub digest_joined : (report_number (finish_of s last out).answer ≡ 0)
          × (finish_buffer s last out ≡ digest_of (family_of m) m (fill 64 salt) x ++ drop (digest_bytes m) out)
      digest_joined = (rw one_shot_lem.0 right.0, one_shot_lem.1 ∙ right.1)

      -- The digest reports how many bytes and bits it covers and how many blocks it compressed, start-up calls not counted.
      pub coverage_reported : (report_covered (finish_of s last out).answer ≡ length xs) × (report_bits (finish_of s last out).answer ≡ last.count)
          × (report_blocks (finish_of s last out).answer ≡ length (handed (family_of m) m x))
      unfolding handed
      coverage_reported =
          let ok = begin_accepted m salt start in
          let c = counts_right m salt x out ok.0 ok.1 within fits room in
          (rw one_shot_lem.0 c.0, rw one_shot_lem.0 c.1, rw (one_shot_lem.0, length-map) c.2)

    -- Within one digest no two of those compressions use the same counter: the words that each is handed differ.
    pub counters_never_repeat : distinct (map (λ b. b.0) (handed (family_of m) m x))
    counters_never_repeat = counters_distinct (family_of m) m x within

-- Two digests of the same compression function that differ in message (a byte, a bit or its length) or digest length have different lists of (counter, block),
-- and neither list is the opening of the other. The salt is in no list.
pub no_list_opens : (m m' : ℕ) (x y : Message) → allowed m ≡ true → allowed m' ≡ true → family_of m ≡ family_of m' → last_fits x.last ≡ true → last_fits y.last ≡ true
    → bit_length x ≤ bit_limit → bit_length y ≤ bit_limit → ((m ≡ m') × (x ≡ y) → ⊥)
    → (handed (family_of m) m x ≡ handed (family_of m') m' y → ⊥) × (Opens (handed (family_of m) m x) (handed (family_of m') m' y) → ⊥)
    × (Opens (handed (family_of m') m' y) (handed (family_of m) m x) → ⊥)
no_list_opens m m' x y h h' e = rw (← e) (lists_apart (family_of m) m m' x y h h')
