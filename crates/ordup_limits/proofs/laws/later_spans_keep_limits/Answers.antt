use Rattle.ordup_limits.proofs.LimitLemmas.{within-later}
use Rattle.ordup_limits.proofs.laws.later_spans_keep_limits.Goals as goal

pub returns : goal.returns
returns c = within-later
