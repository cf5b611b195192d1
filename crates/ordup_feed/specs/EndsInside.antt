-- What each end keeps: its passes are those of its queue and its counter, and it counts its parcels.
use Rattle.std.specs.Prelude.{◌≡◌, ◌≤◌, [], ◌∷◌, length}
use Rattle.std.specs.Arc.{arc_value}
use Rattle.crossbeam_queue.specs.Passes.{view, IsPassOf, ruled_capacity}
use Rattle.crossbeam_utils.specs.Seq.{cell_view}
use Rattle.ordup_feed.specs.Parcels.{AreInOrder}
use Rattle.ordup_feed.specs.QueueRule.{start_of, parcels_of, IsSender, IsTaker}
use Rattle.ordup_feed.specs.CounterRule.{number_of, IsKnown, IsTold}
use Rattle.ordup_feed.specs.Ends.{Sending, Taking}
use Rattle.ordup_feed.specs.declared.send_end.SendEnd.TheInside.{Inside as InsideSendEnd}
use Rattle.ordup_feed.specs.declared.take_end.TakeEnd.TheInside.{Inside as InsideTakeEnd}

abbrev pub sending_of : InsideSendEnd → Sending
sending_of s = record {
  feed = record {
    tables = s.pass.table_id ∷ s.counter_pass.table_id ∷ [];
    places = [];
    names = [];
    capacity = ruled_capacity (arc_value s.queue);
  };
  start = start_of (view s.pass);
  pushed = parcels_of (view s.pass);
  known = number_of (cell_view s.counter_pass);
}

abbrev pub taking_of : InsideTakeEnd → Taking
taking_of s = record {
  feed = record {
    tables = s.pass.table_id ∷ s.counter_pass.table_id ∷ [];
    places = [];
    names = [];
    capacity = ruled_capacity (arc_value s.queue);
  };
  start = start_of (view s.pass);
  taken = parcels_of (view s.pass);
  told = number_of (cell_view s.counter_pass);
}

pub record KeepsSender (s : InsideSendEnd) : Type 0 where
  pub queue : IsPassOf (arc_value s.queue) s.pass
  pub sender : IsSender (view s.pass)
  pub counter : s.counter_pass.table_id ≡ (arc_value s.counter).table.shared.table_id
  pub knows : IsKnown (cell_view s.counter_pass)
  pub counted : s.count ≡ length (parcels_of (view s.pass))
  pub order : AreInOrder (start_of (view s.pass)) (parcels_of (view s.pass))

pub record KeepsTaker (s : InsideTakeEnd) : Type 0 where
  pub queue : IsPassOf (arc_value s.queue) s.pass
  pub taker : IsTaker (view s.pass)
  pub counter : s.counter_pass.table_id ≡ (arc_value s.counter).table.shared.table_id
  pub tells : IsTold (cell_view s.counter_pass)
  pub counted : s.count ≡ length (parcels_of (view s.pass))
  pub order : AreInOrder (start_of (view s.pass)) (parcels_of (view s.pass))
  pub told : number_of (cell_view s.counter_pass) ≤ length (parcels_of (view s.pass))
