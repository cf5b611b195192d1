use Rattle.ordup_limits.proofs.JoinLemmas.{limits_by_place_are_tests}
use Rattle.ordup_limits.proofs.laws.limits_by_place_are_tests.Goals as goal

pub returns : goal.returns
returns c = limits_by_place_are_tests
