-- `Counter::of` meets its contract.
use Rattle.counter.proofs.Counting.{two_words}
use Rattle.counter.proofs.Counter.of.Goals as goal

pub returns : goal.returns
returns c = two_words c.args.bits c.ranges.bits.fits
