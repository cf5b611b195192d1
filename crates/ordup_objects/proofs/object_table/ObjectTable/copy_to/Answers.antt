use Rattle.std.proofs.Common.{arith}
use Rattle.std.proofs.lemmas.Grind.{common_steps}
use Rattle.std.proofs.lemmas.Int.{to_z-of_z}
use Rattle.ordup_objects.proofs.TableLemmas.{take-next}
use Rattle.ordup_objects.proofs.object_table.ObjectTable.copy_to.Goals as goal

pub loop-index-preserved : goal.loop-index-preserved
loop-index-preserved g c = grind (arith, common_steps, to_z-of_z, take-next)
