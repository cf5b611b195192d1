use Rattle.ordup_limits.proofs.JoinLemmas.{tests_join}
use Rattle.ordup_limits.proofs.laws.tests_join.Goals as goal

pub returns : goal.returns
returns c = tests_join
