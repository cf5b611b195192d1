use Rattle.std.proofs.Common.{◌≡◌, replicate}
use Rattle.ordup_world.specs.Worlds.{first_site}
use Rattle.ordup_world.proofs.store.add_first_sites.Given as goal

-- the sites so far
abbrev pub invariant-loop-site : goal.invariant-loop-site
invariant-loop-site g l = l.sites.items ≡ replicate l._site (first_site l.setup)
