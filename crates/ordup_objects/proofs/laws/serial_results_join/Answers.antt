use Rattle.ordup_objects.proofs.JoinLemmas.{serial_results_join}
use Rattle.ordup_objects.proofs.laws.serial_results_join.Goals as goal

pub returns : goal.returns
returns c = serial_results_join
