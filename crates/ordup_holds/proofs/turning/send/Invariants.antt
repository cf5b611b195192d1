use Rattle.std.proofs.Common.{◌≡◌, ◌-◌, ◌<◌, length}
use Rattle.ordup_primary.specs.Primaries.{progress_at}
use Rattle.ordup_holds.specs.Books.{IsTied}
use Rattle.ordup_holds.specs.Turning.{Sent, kept_at, with_progress, send_bound}
use Rattle.ordup_holds.proofs.turning.send.Given as goal

-- the site was sent some updates, and nothing else changed
abbrev pub invariant-loop-site : goal.invariant-loop-site
invariant-loop-site g l = record {
  tied : IsTied l.primary l.site l.end;
  site : l.primary ≡ with_progress l.fn.primary l.site (progress_at l.primary l.site);
  sent : Sent (send_bound l.fn.primary) l.site (kept_at l.fn.primary l.site l.fn.end) (kept_at l.primary l.site l.end);
  inside : l.site < length l.primary.sites;
}

abbrev pub decreases-loop-site : goal.decreases-loop-site
decreases-loop-site g l = l.last - (progress_at l.primary l.site).sent
