-- Each turn puts the next word, and the rest of the words goes behind it; past the end nothing changes.
use mathlib.Core.Path.{◌≡◌}
use lib.ListN.{drop}
use lib.Seq.{sets}
use Rattle.fields.specs.Fields.{bytes_of}
use Rattle.fields.proofs.put_words.Given as goal

abbrev pub invariant-loop-w : goal.invariant-loop-w
invariant-loop-w l = sets l.initial.out l.at (bytes_of l.words) ≡ sets l.out l.to (bytes_of (drop l.w-index l.words))
