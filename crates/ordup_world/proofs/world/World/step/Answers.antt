use Rattle.ordup_world.proofs.AlongLemmas.{TakesEvent-steps}
use Rattle.ordup_world.proofs.world.World.step.Goals as goal

pub returns : goal.returns
returns g c = TakesEvent-steps _ _ c.take.result c.take.new.self c.take.ensures
