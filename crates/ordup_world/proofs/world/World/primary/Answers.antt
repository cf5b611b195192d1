use Rattle.ordup_primary.proofs.PrimaryLemmas.{HasFewestRounds-sound}
use Rattle.ordup_world.specs.Worlds.{with_queries}
use Rattle.ordup_world.specs.StoreInside.{state_of}
use Rattle.ordup_world.proofs.StoreLemmas.{KeepsLimits-sound}
use Rattle.ordup_world.proofs.world.World.primary.Goals as goal

pub returns-clause-limits : goal.returns-clause-limits
returns-clause-limits g c =
    rw (← c.self.view_is) (KeepsLimits-sound (with_queries (state_of c.self.inside.store) c.self.inside.queries) c.self.invariant.store)

pub returns-clause-fewest : goal.returns-clause-fewest
returns-clause-fewest g c = rw (← c.self.view_is) (HasFewestRounds-sound c.self.inside.store.primary c.self.invariant.store.primary)
