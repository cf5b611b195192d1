use Rattle.ordup_sites.proofs.SitesLemmas.{same_records_have_the_same_values}
use Rattle.ordup_sites.proofs.laws.same_records_have_the_same_values.Goals as goal

pub returns : goal.returns
returns c = same_records_have_the_same_values
