-- What a store of the code stands for.
use Rattle.ordup_world.specs.Worlds.{StoreState}
use Rattle.ordup_world.specs.declared.store.Store.{Store}

-- its primary, and its sites in order of declaration
abbrev pub state_of : {A : Type 0} → Store A → StoreState
state_of s = record { primary = s.primary; sites = s.sites.items }
