-- What lies under the lock of the primary.
use Rattle.std.specs.Prelude.{◌≡◌, ℕ, ◌≤◌, Some, List, length, All, slice_get}
use Rattle.ordup_objects.specs.States.{State}
use Rattle.ordup_objects.specs.Serial.{prefix_of}
use Rattle.ordup_primary.specs.Declarations.{capacity_of}
use Rattle.ordup_primary.specs.Primaries.{PrimaryState, progress_at}
use Rattle.ordup_feed.specs.Parcels.{history_of}
use Rattle.ordup_feed.specs.Ends.{Sending}

-- the primary, and the sender's end of each site's feed
pub record BookState : Type 0 where
  pub primary : PrimaryState
  pub ends : List Sending

-- The end belongs to site s of the primary: its feed has the site's capacity; what was pushed are the first updates of the log, as
-- many as were sent to the site; and the site reported no more than the end knows.
pub record IsTied (p : PrimaryState) (s : ℕ) (e : Sending) : Type 0 where
  pub capacity : e.feed.capacity ≡ capacity_of p.setup s
  pub pushed : history_of e.start e.pushed ≡ prefix_of p.log (progress_at p s).sent
  pub reported : (progress_at p s).reported ≤ e.known

-- there is an end for each site, and it belongs to the site
pub record KeepsBook (p : PrimaryState) (ends : List Sending) : Type 0 where
  pub count : length ends ≡ length p.sites
  pub tied : (s : ℕ) (e : Sending) → slice_get ends s ≡ Some e → IsTied p s e

-- the initial values of the objects, once for each site
abbrev pub AreSpareValues : PrimaryState → List State → Type 0
AreSpareValues p spare_values = (length spare_values ≡ length p.sites) × All (λ v. v ≡ p.log.start) spare_values

-- what the parts of a book keep: the ends belong to the primary, and there are spare values for each site
pub record KeepsParts (p : PrimaryState) (ends : List Sending) (spare : List State) : Type 0 where
  pub kept : KeepsBook p ends
  pub spare_values : AreSpareValues p spare
