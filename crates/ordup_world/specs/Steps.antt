-- Steps of the store and of the world.
use Rattle.std.specs.Prelude.{◌≡◌, ◌≤◌, List, length}
use Rattle.ordup_objects.specs.declared.change.Change.{Change}
use Rattle.ordup_objects.specs.Serial.{with_more}
use Rattle.ordup_primary.specs.Declarations.{Declared}
use Rattle.ordup_primary.specs.Primaries.{HasFewestRounds}
use Rattle.ordup_world.specs.Events.{Past, later, IsAnswer, OnRefused}
use Rattle.ordup_world.specs.Imports.{AreAccepted, KeepImports}
use Rattle.ordup_world.specs.Worlds.{StoreState, WorldState, IsStore, IsSound, IsStoreAfter, StandsFor, KeepsLimits}
use Rattle.ordup_world.specs.declared.event.Event.{Event}
use Rattle.ordup_world.specs.declared.event.Answer.{Answer}

-- updates are only added to the log, and what is acknowledged stays so
pub record Grows (old new : StoreState) : Type 0 where
  pub setup : new.primary.setup ≡ old.primary.setup
  pub more : List (List Change)
  pub log : new.primary.log ≡ with_more old.primary.log more
  pub acked : old.primary.acked ≤ new.primary.acked
  pub sites : length new.sites ≡ length old.sites

module _ {A : Type 0} where
  -- The store took an event and answered it: for every list of accepted events that it stood for, it answered as the model does,
  -- and stands for the list with the event. A refused event left it as it was.
  pub record StepsStore (old : StoreState) (e : Event A) (a : Answer A) (new : StoreState) : Type 0 where
    pub answer : (setup : Declared) (past : Past A) → IsStoreAfter setup old past → IsAnswer setup past e a
    pub state : (setup : Declared) (past : Past A) → IsStoreAfter setup old past → IsStoreAfter setup new (later past e a)
    pub refused : OnRefused a (new ≡ old)
    pub sound : IsStore new
    pub grows : Grows old new

  -- so did the world
  pub record StepsWorld (old : WorldState) (e : Event A) (a : Answer A) (new : WorldState) : Type 0 where
    pub answer : (setup : Declared) (past : Past A) → StandsFor setup old past → IsAnswer setup past e a
    pub state : (setup : Declared) (past : Past A) → StandsFor setup old past → StandsFor setup new (later past e a)
    pub refused : OnRefused a (new ≡ old)
    pub sound : IsSound new
    pub setup : new.primary.setup ≡ old.primary.setup

  -- What a world promises of each event: it took the event and answered it, as above. It is sound, each site keeps its limits and has
  -- the fewest rounds, and where the past was accepted, each open query keeps its import limit.
  pub record TakesEvent (old : WorldState) (e : Event A) (a : Answer A) (new : WorldState) : Type 0 where
    pub answer : (setup : Declared) (past : Past A) → StandsFor setup old past → IsAnswer setup past e a
    pub state : (setup : Declared) (past : Past A) → StandsFor setup old past → StandsFor setup new (later past e a)
    pub setup : new.primary.setup ≡ old.primary.setup
    pub refused : OnRefused a (new ≡ old)
    pub sound : IsSound new
    pub limits : KeepsLimits new
    pub fewest : HasFewestRounds new.primary
    pub imports : (setup : Declared) (past : Past A) → StandsFor setup old past → AreAccepted setup past
        → KeepImports setup (later past e a)
