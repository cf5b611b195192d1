use Rattle.ordup_rounds.proofs.JoinLemmas.{fewest_rounds_join}
use Rattle.ordup_rounds.proofs.laws.fewest_rounds_join.Goals as goal

pub returns : goal.returns
returns c = fewest_rounds_join
