use Rattle.ordup_objects.proofs.JoinLemmas.{legal_histories_join}
use Rattle.ordup_objects.proofs.laws.legal_histories_join.Goals as goal

pub returns : goal.returns
returns c = legal_histories_join
