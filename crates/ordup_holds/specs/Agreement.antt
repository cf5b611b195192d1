-- When a site agrees with a primary.
use Rattle.std.specs.Prelude.{◌≡◌, ℕ, ◌≤◌}
use Rattle.ordup_objects.specs.Serial.{serial}
use Rattle.ordup_primary.specs.Primaries.{PrimaryState, progress_at}
use Rattle.ordup_site.specs.Sites.{SiteState}

-- the site holds the serial result of the first updates of the log, as many as it applied: no fewer than it reported, and no more
-- than were sent to it
pub record Agrees (p : PrimaryState) (s : ℕ) (site : SiteState) : Type 0 where
  pub values : site.values ≡ serial p.log site.applied
  pub reported : (progress_at p s).reported ≤ site.applied
  pub sent : site.applied ≤ (progress_at p s).sent
