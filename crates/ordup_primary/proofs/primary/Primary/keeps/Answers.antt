use Rattle.ordup_primary.specs.PrimaryInside.{state_of}
use Rattle.ordup_primary.proofs.PrimaryLemmas.{HasFewestRounds-sound}
use Rattle.ordup_primary.proofs.primary.Primary.keeps.Goals as goal

pub returns-clause-fewest : goal.returns-clause-fewest
returns-clause-fewest g c = rw (← c.self.view_is) (HasFewestRounds-sound (state_of c.self.inside) c.self.invariant.primary)
