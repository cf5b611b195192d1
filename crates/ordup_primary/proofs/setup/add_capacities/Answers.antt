use Rattle.std.proofs.Common.{arith}
use Rattle.std.proofs.lemmas.Grind.{common_steps}
use Rattle.ordup_objects.proofs.TableLemmas.{take-next}
use Rattle.ordup_primary.proofs.setup.add_capacities.Goals as goal

pub loop-index-preserved : goal.loop-index-preserved
loop-index-preserved g c = grind (arith, common_steps, take-next)
