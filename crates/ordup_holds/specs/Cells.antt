-- What lies under the lock of a site.
use Rattle.std.specs.Prelude.{◌≡◌, ℕ, ◌+◌, [], ◌∷◌, ◌++◌, length}
use Rattle.ordup_site.specs.Sites.{SiteState, HasApplied}
use Rattle.ordup_feed.specs.Parcels.{PlainParcel, IsNext, history_of}
use Rattle.ordup_feed.specs.Ends.{Taking}

-- the site, and the taker's end of its feed
pub record CellState : Type 0 where
  pub site : SiteState
  pub end : Taking

-- the site applied just what was taken: it holds the serial result of that
abbrev pub HoldsTaken : CellState → Type 0
HoldsTaken c = HasApplied c.site (history_of c.end.start c.end.taken) (length c.end.taken)

-- the parcel of this number, which is the next, was taken, and the end told how many were
abbrev pub TakesNext : CellState → CellState → ℕ → Type 0
TakesNext old new number =
    (p : PlainParcel) × (p.number ≡ number) × IsNext old.end.start old.end.taken p
    × (new.end ≡ record old.end { taken = old.end.taken ++ p ∷ []; told = length old.end.taken + 1 })
