use Rattle.compress.specs.Compression.{compress_of}
use Rattle.expanded.proofs.large.Goals as goal

pub returns : goal.returns
unfolding compress_of
returns g c = rw (c.feed.ensures, c.large.ensures, c.expand.ensures)
