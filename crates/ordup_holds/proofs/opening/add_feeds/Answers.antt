use Rattle.ordup_holds.proofs.OpeningLemmas.{at-last}
use Rattle.ordup_holds.proofs.opening.add_feeds.Goals as goal

pub loop-index-init : goal.loop-index-init
loop-index-init g c = c.requires.none

pub add_feed-requires : goal.add_feed-requires
add_feed-requires g c = record {
  site = rw (c.new-site.ensures, ← c.sites-index-end.ensures.sites) c.loop-index-test.true;
  feeds = rw c.new-site.ensures c.loop-index.invariant;
}

pub loop-index-preserved : goal.loop-index-preserved
loop-index-preserved g c = rw c.new-site.ensures at c.in_ok-add_feed.ensures.feeds

pub returns-clause-feeds : goal.returns-clause-feeds
returns-clause-feeds g c =
    rw (← at-last _ _ _ c.loop-index-test.false c.loop-index.auto.index-end c.sites-index-end.ensures.sites) c.loop-index.invariant
