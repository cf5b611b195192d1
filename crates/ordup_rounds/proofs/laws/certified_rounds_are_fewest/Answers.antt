use Rattle.ordup_rounds.proofs.RoundLemmas.{certified_rounds_are_fewest}
use Rattle.ordup_rounds.proofs.laws.certified_rounds_are_fewest.Goals as goal

pub returns : goal.returns
returns c = certified_rounds_are_fewest
