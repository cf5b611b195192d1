use Rattle.ordup_log.proofs.JoinLemmas.{spans_join}
use Rattle.ordup_log.proofs.laws.spans_join.Goals as goal

pub returns : goal.returns
returns c = spans_join
