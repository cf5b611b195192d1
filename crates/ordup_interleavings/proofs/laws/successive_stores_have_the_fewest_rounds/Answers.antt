use Rattle.ordup_interleavings.proofs.StoreLemmas.{successive_stores_have_the_fewest_rounds}
use Rattle.ordup_interleavings.proofs.laws.successive_stores_have_the_fewest_rounds.Goals as goal

pub returns : goal.returns
returns c = successive_stores_have_the_fewest_rounds
