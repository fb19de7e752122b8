-- The bytes that are spelled so far, and those that the iterator has left, are all.
use Rattle.std.proofs.Common.{◌≡◌, ℕ, List, ◌++◌}
use Rattle.std.specs.Fmt.{HasWritten, IsPlainFormatter}
use Rattle.std.specs.Slice.Iter.{chunks_rest}
use Rattle.text.specs.Digits.{hex_of}
use Rattle.streaming.proofs.HexDisplay.fmt.Given as goal

abbrev pub invariant-loop-part : goal.invariant-loop-part
invariant-loop-part g l =
    IsPlainFormatter l.initial.f → (done : List ℕ) × HasWritten g.W.Write.write_str_gives l.initial.f (hex_of done) l.f × (done ++ chunks_rest l.part-iterator ≡ l.fn.self.0.now)
