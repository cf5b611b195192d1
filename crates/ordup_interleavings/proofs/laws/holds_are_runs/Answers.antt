use Rattle.ordup_interleavings.proofs.RunOfHoldsLemmas.{holds-are-runs}
use Rattle.ordup_interleavings.proofs.laws.holds_are_runs.Goals as goal

pub returns : goal.returns
returns c = holds-are-runs
