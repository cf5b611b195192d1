use Rattle.ordup_rounds.proofs.RoundLemmas.{forced_rounds_are_fewest}
use Rattle.ordup_rounds.proofs.laws.forced_rounds_are_fewest.Goals as goal

pub returns : goal.returns
returns c = forced_rounds_are_fewest
