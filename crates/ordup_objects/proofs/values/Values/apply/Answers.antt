use Rattle.std.proofs.Common.{arith}
use Rattle.std.proofs.lemmas.Grind.{common_steps}
use Rattle.ordup_objects.proofs.values.Values.apply.Goals as goal

pub returns-clause-ok : goal.returns-clause-ok
returns-clause-ok g c = grind (arith, common_steps)

pub returns-clause-len : goal.returns-clause-len
returns-clause-len g c = grind (arith, common_steps)
