-- What each end keeps.
use Rattle.std.specs.Prelude.{◌≡◌, ℕ, ◌+◌, ◌≤◌, [], ◌∷◌, length}
use denote.RawPtr.{Ptr}
use Rattle.rtrb.specs.Shared.{Names}
use Rattle.rtrb.specs.Ring.{sent, received, known_free, producer_capacity, consumer_capacity}
use Rattle.ordup_feed.specs.Parcels.{AreInOrder}
use Rattle.ordup_feed.specs.Ends.{FeedId, Sending, Taking}
use Rattle.ordup_ring.specs.RingRule.{start_in, parcels_in, IsRun}
use Rattle.ordup_ring.specs.declared.ring_send_end.RingSendEnd.TheInside.{Inside as InsideSendEnd}
use Rattle.ordup_ring.specs.declared.ring_take_end.RingTakeEnd.TheInside.{Inside as InsideTakeEnd}

-- the feed over the ring that lies at these places and has these names
abbrev pub feed_id : Ptr → Ptr → Names → ℕ → FeedId
feed_id words slots names capacity =
    record { tables = []; places = words ∷ slots ∷ []; names = names.0 ∷ names.1.0 ∷ names.1.1 ∷ []; capacity = capacity }

abbrev pub sending_of : InsideSendEnd → Sending
sending_of s = record {
  feed = feed_id s.producer.end.words s.producer.end.slots s.producer.end.names (producer_capacity s.producer);
  start = start_in (sent s.producer);
  pushed = parcels_in (sent s.producer);
  known = s.known;
}

-- what is taken is told by that step
abbrev pub taking_of : InsideTakeEnd → Taking
taking_of s = record {
  feed = feed_id s.consumer.end.words s.consumer.end.slots s.consumer.end.names (consumer_capacity s.consumer);
  start = start_in (received s.consumer);
  taken = parcels_in (received s.consumer);
  told = length (parcels_in (received s.consumer));
}

pub record KeepsSender (s : InsideSendEnd) : Type 0 where
  pub run : IsRun (sent s.producer)
  pub counted : s.count ≡ length (parcels_in (sent s.producer))
  pub order : AreInOrder (start_in (sent s.producer)) (parcels_in (sent s.producer))
  -- as many slots are known to be free as there are, but for the parcels that the site is not known to have taken
  pub free : s.known + producer_capacity s.producer ≤ known_free s.producer + length (parcels_in (sent s.producer))

pub record KeepsTaker (s : InsideTakeEnd) : Type 0 where
  pub run : IsRun (received s.consumer)
  pub order : AreInOrder (start_in (received s.consumer)) (parcels_in (received s.consumer))
