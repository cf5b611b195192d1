-- What the types keep of a moment, whatever the calls were.
use Rattle.std.specs.Prelude.{◌≡◌, ℕ, Some, List, [], ◌∷◌, length, slice_get}
use Rattle.ordup_feed.specs.Parcels.{PlainParcel}
use Rattle.ordup_feed.specs.Ends.{Sending, Taking}
use Rattle.ordup_feed.specs.QueueRule.{QueueHolds}
use Rattle.ordup_feed.specs.CounterRule.{CounterHolds}
use Rattle.ordup_feed.specs.declared.queue.View.TheVariants.{Sender, Taker}
use Rattle.ordup_feed.specs.declared.counter.CounterView.TheVariants.{Known, Told}
use Rattle.ordup_holds.specs.Books.{KeepsBook}
use Rattle.ordup_holds.specs.Cells.{CellState, HoldsTaken}
use Rattle.ordup_interleavings.specs.Moments.{Moment}

-- the two ends are of one feed: the rules of its queue and of its counter hold between them
pub record IsFeed (e : Sending) (t : Taking) : Type 0 where
  pub items : List PlainParcel
  pub counter : List ℕ
  pub queue : QueueHolds items (Sender e.start e.pushed ∷ Taker t.start t.taken ∷ [])
  pub told : CounterHolds counter (Known e.known ∷ Told t.told ∷ [])

-- the ends of the book are of its primary, each site applied just what it took, and each end of the book is of one feed with that of
-- the cell
pub record IsKept (m : Moment) : Type 0 where
  pub book : KeepsBook m.book.primary m.book.ends
  pub count : length m.cells ≡ length m.book.ends
  pub cells : (s : ℕ) (c : CellState) → slice_get m.cells s ≡ Some c → HoldsTaken c
  pub feeds : (s : ℕ) (e : Sending) (c : CellState) → slice_get m.book.ends s ≡ Some e → slice_get m.cells s ≡ Some c → IsFeed e c.end
