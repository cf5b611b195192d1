use Rattle.ordup_primary.proofs.ParcelLemmas.{next-follows}
use Rattle.ordup_primary.proofs.laws.next_updates_may_follow.Goals as goal

pub returns : goal.returns
returns c = next-follows
