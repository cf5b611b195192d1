use Rattle.ordup_holds.specs.Opening.{AreFirstFeeds}
use Rattle.ordup_holds.proofs.opening.add_feeds.Given as goal

-- the feeds of the sites so far
abbrev pub invariant-loop-index : goal.invariant-loop-index
invariant-loop-index g l = AreFirstFeeds l.setup l.index l.ends.items l.cells.items
