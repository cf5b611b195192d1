use Rattle.ordup_feed.proofs.QueueMoves.{learns}
use Rattle.ordup_feed.proofs.send_end.SendEnd.is_full.Goals as goal

pub is_full_as-requires-clause-rule : goal.is_full_as-requires-clause-rule
is_full_as-requires-clause-rule c = learns _ _ c.self.invariant.sender
