use Rattle.ordup_limits.proofs.LimitLemmas.{within-empty}
use Rattle.ordup_limits.proofs.laws.empty_spans_keep_limits.Goals as goal

pub returns : goal.returns
returns c = within-empty
