use Rattle.ordup_rounds.proofs.JoinLemmas.{certificates_join}
use Rattle.ordup_rounds.proofs.laws.certificates_join.Goals as goal

pub returns : goal.returns
returns c = certificates_join
