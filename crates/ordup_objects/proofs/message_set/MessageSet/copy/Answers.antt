use Rattle.std.proofs.Common.{arith}
use Rattle.std.proofs.lemmas.Grind.{common_steps}
use Rattle.ordup_objects.proofs.message_set.MessageSet.copy.Goals as goal

pub invariant_of-result : goal.invariant_of-result
invariant_of-result g c = grind (arith, common_steps)

pub returns : goal.returns
returns g c = grind (arith, common_steps)
