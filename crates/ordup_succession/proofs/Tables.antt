-- What the tables of a setup keep.
use Rattle.std.proofs.Common.{◌≡◌, ◌≤◌, length}
use Rattle.std.specs.Prelude.{All, None}
use Rattle.ordup_objects.specs.Tables.{AreDistinct, AreNames, initial_state}
use Rattle.ordup_objects.specs.Sizes.{most_groups, most_objects}
use Rattle.ordup_objects.specs.States.{IsState}
use Rattle.ordup_log.specs.Groups.{IsGroup}
use Rattle.ordup_limits.specs.Entries.{AreEntries}
use Rattle.ordup_primary.specs.Declarations.{AreDeclared, Declared, start_refusal}

-- a setup that is ready, with what its tables keep
pub record HasTables (d : Declared) : Type 0 where
  pub declared : AreDeclared d
  pub ready : start_refusal d ≡ None
  pub objects : AreNames d.objects
  pub apart : AreDistinct d.objects
  pub few : length d.objects ≤ most_objects
  pub state : IsState (initial_state d.objects)
  pub groups : AreNames d.groups
  pub groups_apart : AreDistinct d.groups
  pub few_groups : length d.groups ≤ most_groups
  pub members : All (λ g. IsGroup g.1) d.groups
  pub sites : AreNames d.sites
  pub sites_apart : AreDistinct d.sites
  pub entries : All AreEntries d.limits
