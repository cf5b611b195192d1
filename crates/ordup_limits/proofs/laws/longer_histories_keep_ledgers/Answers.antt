use Rattle.ordup_limits.proofs.LedgerLemmas.{StandsFor-longer}
use Rattle.ordup_limits.proofs.laws.longer_histories_keep_ledgers.Goals as goal

pub returns : goal.returns
returns c = StandsFor-longer
