use Rattle.ordup_interleavings.proofs.SiteLemmas.{sites-have-fewest-rounds}
use Rattle.ordup_interleavings.proofs.laws.sites_have_the_fewest_rounds.Goals as goal

pub returns : goal.returns
returns c = sites-have-fewest-rounds
