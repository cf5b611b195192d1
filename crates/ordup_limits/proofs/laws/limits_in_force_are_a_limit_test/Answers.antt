use Rattle.ordup_limits.proofs.EntryLemmas.{in_force-test}
use Rattle.ordup_limits.proofs.laws.limits_in_force_are_a_limit_test.Goals as goal

pub returns : goal.returns
returns c = in_force-test
