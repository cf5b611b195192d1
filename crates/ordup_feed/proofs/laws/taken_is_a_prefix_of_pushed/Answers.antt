use Rattle.ordup_feed.proofs.QueueMoves.{taken-prefix}
use Rattle.ordup_feed.proofs.laws.taken_is_a_prefix_of_pushed.Goals as goal

pub returns : goal.returns
returns c = taken-prefix
