use Rattle.ordup_interleavings.proofs.SessionLemmas.{proposals-have-one-order}
use Rattle.ordup_interleavings.proofs.laws.proposals_have_one_order.Goals as goal

pub returns : goal.returns
returns c = proposals-have-one-order
