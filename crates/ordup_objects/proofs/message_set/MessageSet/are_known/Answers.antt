use Rattle.std.proofs.Common.{arith}
use Rattle.std.proofs.lemmas.Grind.{common_steps}
use Rattle.ordup_objects.proofs.message_set.MessageSet.are_known.Goals as goal

pub returns : goal.returns
returns g c = grind (arith, common_steps)
