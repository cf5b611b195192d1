use Rattle.rtrb.specs.Ring.{sent, received, known_items}
use Rattle.ordup_ring.proofs.RingLemmas.{taken-prefix}
use Rattle.ordup_ring.proofs.ring_feed.compare.Goals as goal

pub returns-clause-prefix : goal.returns-clause-prefix
returns-clause-prefix c =
    let both = c.slots_beside.ensures in
    rw (← c.taker.view_is, ← c.sender.view_is)
    (taken-prefix (received c.taker.inside.consumer) (known_items c.slots_beside.new.self) (sent c.sender.inside.producer)
    (rw (both.looked.1, both.producer.1) at both.fifo))
