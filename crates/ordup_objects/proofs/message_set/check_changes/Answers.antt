use Rattle.std.proofs.Common.{arith}
use Rattle.std.proofs.lemmas.Grind.{common_steps}
use Rattle.ordup_objects.proofs.message_set.check_changes.Goals as goal

pub returns-clause-set : goal.returns-clause-set
returns-clause-set c = grind (arith, common_steps)

pub returns-clause-known : goal.returns-clause-known
returns-clause-known c = grind (arith, common_steps)
