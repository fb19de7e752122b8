-- The numbers of a check's answer are small: R at most 24, N at most 1,024, the register that differs below R, a refusal's offset at most 38,440.
use mathlib.Core.Path.{◌≡◌, refl}
use mathlib.Core.Bool.{Bool, true, false, cond}
use mathlib.Core.List.{List}
use Prim.Native.Nat.{ℕ, zero, suc, ◌+◌, ◌*◌, ◌≤◌, ◌<◌}
use native.Mathlib.Omega.{arith}
use lib.Dec.{eqb}
use lib.ListN.{length, replicate}
use borrow.Author.Tests.{le-ltb}
use Rattle.std.specs.Prelude.{Result, Ok, Err}
use Rattle.log_answers.specs.declared.reading.Layout.{Layout}
use Rattle.log_answers.specs.declared.reading.Fault.{Fault}
use Rattle.log_answers.specs.declared.checked.Verdict.TheVariants.{NoClaim, Differs}
use Rattle.layout.specs.Layout.{reading_of, claims_of}
use Rattle.records.specs.Records.{register_at, extensions_at}
use Rattle.fields.specs.Fields.{same}
use Rattle.bootlog.specs.Check.{ends_of, compared, verdict_of, checked_at, check_of, check_buffer}
use Rattle.log_answers.specs.Checked.{check_registers}
use Rattle.layout.proofs.Sizes.{counts}
use Rattle.bad_logs.proofs.Far.{refused_place}
use Rattle.bootlog.proofs.Logs.{log_blocks}
use Rattle.bootlog.proofs.Recorded.{recorded_number, few_extensions}
use Rattle.printout.specs.Printout.{text_of, printout_of, print_of}
use Rattle.printout.specs.Page.{kept}
use Rattle.printout.proofs.Pages.{all_kept}
use Rattle.printout.proofs.Lengths.{Register, Modest, text_length}

compared_small : (ends claims : List ℕ) (r n : ℕ) → r + n ≤ 24 → Register (compared ends claims r n)
unfolding compared
compared_small ends claims r zero h = tt
compared_small ends claims r (suc n) h = by (same (register_at ends r) (register_at claims r)) (compared_small ends claims (suc r) n (omega arith))
  where
    by : (t : Bool) → Register (compared ends claims (suc r) n) → Register (cond t (compared ends claims (suc r) n) (Differs r))
    by true g = g
    by false g = omega arith

verdict_small : (log : List ℕ) (at : Layout) → at.registers ≤ 24 → Register (verdict_of log at)
unfolding verdict_of
verdict_small log at h = by (eqb at.claims 0)
  where
    by : (t : Bool) → Register (cond t NoClaim (compared (ends_of log at) (claims_of log at) 0 at.registers))
    by true = tt
    by false = compared_small (ends_of log at) (claims_of log at) 0 at.registers (omega arith)

pub modest : (log : List ℕ) → Modest (check_of log 816)
unfolding check_of checked_at
modest log = by (reading_of log) refl
  where
    by : (x : Result Layout Fault) → reading_of log ≡ x → Modest (check_of log 816)
    by (Err f) e = rw (e, check_of) (omega (arith, refused_place log f.refusal f.offset e))
    by (Ok at) e =
        let c = counts log at e in
        rw (e, check_of, le-ltb 816 (34 * at.registers) (omega (arith, c.most)), log_blocks log at e)
        (c.most, c.events, omega (arith, c.events), verdict_small log at c.most)

-- and so are the numbers of the records that it leaves
few : (log : List ℕ) (r : ℕ) → r < check_registers (check_of log 816) → extensions_at (check_buffer log (replicate 816 0)) r < 10000
unfolding check_of checked_at
few log r = by (reading_of log) refl
  where
    by : (x : Result Layout Fault) → reading_of log ≡ x → r < check_registers (check_of log 816) → extensions_at (check_buffer log (replicate 816 0)) r < 10000
    by (Err f) e h = absurd (omega (arith, rw (e, check_of) at h))
    by (Ok at) e h =
        let room : 34 * at.registers ≤ 816 = omega (arith, (counts log at e).most) in
        let below : r < at.registers = rw (e, check_of, le-ltb 816 (34 * at.registers) room) at h in
        omega (arith, recorded_number log at e (replicate 816 0) room r below, few_extensions log at e r)

-- The longest text has at most 2,048 bytes.
pub printout_length : (log : List ℕ) → length (printout_of log) ≤ 2048
unfolding printout_of
printout_length log = text_length (check_of log 816) (check_buffer log (replicate 816 0)) (modest log) (few log)

-- so a buffer of so many is never too short for print
pub print_fits : (log : List ℕ) (room : ℕ) → 2048 ≤ room → print_of log room ≡ Ok (length (printout_of log))
unfolding print_of
print_fits log room h = rw (le-ltb room (length (printout_of log)) (omega (arith, printout_length log)))

-- the text of a check fits a page
pub printed : (log : List ℕ) → kept (text_of (check_of log 816) (check_buffer log (replicate 816 0))) ≡ printout_of log
unfolding printout_of
printed log = all_kept (printout_of log) (printout_length log)
