use Rattle.std.proofs.Common.{arith}
use Rattle.std.proofs.lemmas.Int.{to_z-of_z}
use Rattle.std.proofs.lemmas.Grind.{common_steps}
use Rattle.ordup_objects.proofs.TableLemmas.{initial-at}
use Rattle.ordup_objects.proofs.object_table.ObjectTable.initial.Goals as goal

pub returns : goal.returns
returns g c = grind (arith, common_steps, to_z-of_z, initial-at)
