use Rattle.ordup_interleavings.proofs.StoreLemmas.{successors-go-on}
use Rattle.ordup_interleavings.proofs.laws.successors_go_on.Goals as goal

pub returns : goal.returns
returns c = successors-go-on
