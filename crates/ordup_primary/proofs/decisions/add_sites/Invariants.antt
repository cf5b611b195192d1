use Rattle.std.proofs.Common.{◌≡◌, map, replicate}
use Rattle.ordup_primary.specs.PrimaryInside.{first_kept, kept_of}
use Rattle.ordup_primary.proofs.decisions.add_sites.Given as goal

-- the sites so far
abbrev pub invariant-loop-site : goal.invariant-loop-site
invariant-loop-site g l = map kept_of l.sites.items ≡ replicate l._site first_kept
