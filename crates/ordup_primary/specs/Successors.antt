-- The successor of a store.
use Rattle.std.specs.Prelude.{◌==◌, if◌then◌else◌, Option, Some, None, List, length, map}
use Rattle.ordup_objects.specs.declared.refusal.Refusal.{Refusal}
use Rattle.ordup_objects.specs.declared.refusal.Refusal.TheVariants.{NotYet}
use Rattle.ordup_limits.specs.Entries.{Entries, latest, from_start}
use Rattle.ordup_primary.specs.Primaries.{PrimaryState}

-- the last limits of each site, in force from the start
abbrev pub limits_from_start : List Entries → List Entries
limits_from_start tables = map (λ entries. from_start (latest entries)) tables

-- why the store of a primary has no successor, if it has none: an update waits
abbrev pub successor_refusal : PrimaryState → Option Refusal
successor_refusal p = if p.acked == length p.log.sets then None else Some (NotYet (length p.log.sets))
