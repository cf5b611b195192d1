use Rattle.ordup_world.proofs.AlongLemmas.{TakesEvent-steps}
use Rattle.ordup_world.proofs.world.World.read.Goals as goal

pub returns : goal.returns
returns g c = TakesEvent-steps _ _ c.take_read.result c.take_read.new.self c.take_read.ensures
