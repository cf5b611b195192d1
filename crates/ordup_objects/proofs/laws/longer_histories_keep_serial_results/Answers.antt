use Rattle.ordup_objects.proofs.SerialLemmas.{serial-longer}
use Rattle.ordup_objects.proofs.laws.longer_histories_keep_serial_results.Goals as goal

pub returns : goal.returns
returns c = serial-longer
