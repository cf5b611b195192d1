use Rattle.ordup_limits.proofs.LimitLemmas.{within-longer}
use Rattle.ordup_limits.proofs.laws.longer_histories_keep_limits.Goals as goal

pub returns : goal.returns
returns c = within-longer
