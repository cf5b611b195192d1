-- Updates as far as their rows were read, as the code holds them.
use Rattle.std.specs.Prelude.{◌≡◌, ◌++◌, ◌∷◌, IfSome, List, [], length, None, Option, Some}
use Rattle.ordup_objects.specs.Sets.{AreKnown}
use Rattle.ordup_objects.specs.Tables.{Objects, initial_state}
use Rattle.ordup_objects.specs.declared.change.Change.{Change}
use Rattle.ordup_check.specs.PartialUpdates.{BeginsIllegal}
use Rattle.ordup_check.specs.declared.partial_updates.BegunUpdates.{BegunUpdates}
use Rattle.ordup_check.specs.declared.partial_updates.PartialUpdates.TheInside.{Inside}

-- the updates that were begun
abbrev pub sets_of : Option BegunUpdates → List (List Change)
sets_of None = []
sets_of (Some b) = (b.log.sets ++ b.rest.items) ++ b.last ∷ []

-- the log is over these objects, and so is the last update; those apart from the log begin with one that is not legal
pub record AreBegun (objects : Objects) (b : BegunUpdates) : Type 0 where
  pub start : b.log.start ≡ initial_state objects
  pub known : AreKnown (length objects) b.last
  pub apart : BeginsIllegal b.log b.rest.items

abbrev pub ArePartial : Inside → Type 0
ArePartial u = IfSome u.begun (AreBegun u.objects)
