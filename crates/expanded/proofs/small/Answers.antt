use Rattle.compress.specs.Compression.{compress_of}
use Rattle.expanded.proofs.small.Goals as goal

pub returns : goal.returns
unfolding compress_of
returns g c = rw (c.feed.ensures, c.small.ensures, c.expand.ensures)
