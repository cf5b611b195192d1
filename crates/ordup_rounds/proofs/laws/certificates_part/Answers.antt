use Rattle.ordup_rounds.proofs.PartLemmas.{certificates_part}
use Rattle.ordup_rounds.proofs.laws.certificates_part.Goals as goal

pub returns : goal.returns
returns c = certificates_part
