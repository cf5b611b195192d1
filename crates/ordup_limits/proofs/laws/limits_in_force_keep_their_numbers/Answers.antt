use Rattle.ordup_limits.proofs.EntryLemmas.{in_force-numbers}
use Rattle.ordup_limits.proofs.laws.limits_in_force_keep_their_numbers.Goals as goal

pub returns : goal.returns
returns c = in_force-numbers
