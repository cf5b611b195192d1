-- Records: what an auditor has of a site.
use Rattle.std.specs.Prelude.{◌≡◌, ℕ, ◌+◌, ◌<◌, ◌≤◌, nat_le, Bool, true, if◌then◌else◌, List, length, map, fold, All}
use Rattle.std.specs.List.Sorted.{IsStrictlyIncreasing}
use Rattle.ordup_objects.specs.declared.change.Change.{Change}
use Rattle.ordup_objects.specs.Names.{is_name}
use Rattle.ordup_objects.specs.Serial.{History}
use Rattle.ordup_objects.specs.Sets.{AreKnown, IsSet}
use Rattle.ordup_objects.specs.Sizes.{most_groups, most_objects, most_updates}
use Rattle.ordup_objects.specs.States.{IsState}
use Rattle.ordup_objects.specs.Tables.{AreDistinct, AreNames, Objects, initial_state}
use Rattle.ordup_log.specs.Groups.{GroupList, IsGroup}
use Rattle.ordup_limits.specs.Limits.{within}
use Rattle.ordup_limits.specs.Entries.{Entries, in_force, HoldFrom, AreEntries, AreEntriesKnown}
use Rattle.ordup_log.specs.Groups.{AreGroupsKnown}
use Rattle.ordup_rounds.specs.Rounds.{AreRoundPlaces}
use Rattle.ordup_rounds.specs.declared.window.Window.{Window}
use Rattle.ordup_audit.specs.Sizes.{most_windows}
use Rattle.ordup_audit.specs.declared.report_change.ReportChange.{ReportChange}

-- a site's name; the objects with their initial values; the groups; the limits of the site by place; the decided updates; where the
-- site's report changed; the places of its rounds; and its windows
pub record RecordState : Type 0 where
  pub site : List ℕ
  pub objects : Objects
  pub groups : GroupList
  pub limits : Entries
  pub sets : List (List Change)
  pub reports : List ReportChange
  pub rounds : List ℕ
  pub windows : List Window

-- the updates, from the initial values on
abbrev pub history_of : RecordState → History
history_of r = record { start = initial_state r.objects; sets = r.sets }

-- the span from a to b passes none of the limits of the site that are in force at b
abbrev pub is_within : RecordState → ℕ → ℕ → Bool
is_within r a b = within (history_of r) r.groups (in_force r.limits b) a b

-- what the site had reported at the decision of place k: by the last change at or before it, and 0 where there is none
abbrev pub report_at : List ReportChange → ℕ → ℕ
report_at changes k = fold (λ reported c. if nat_le c.place k then c.reported else reported) 0 changes

-- an object or more, of distinct names, with values in range
pub record AreObjects (objects : Objects) : Type 0 where
  pub some : 0 < length objects
  pub few : length objects ≤ most_objects
  pub values : IsState (initial_state objects)
  pub names : AreNames objects
  pub distinct : AreDistinct objects

-- groups of distinct names, each with a member or more, distinct and among the first n objects
pub record AreGroups (n : ℕ) (groups : GroupList) : Type 0 where
  pub few : length groups ≤ most_groups
  pub each : All (λ g. IsGroup g.1) groups
  pub known : AreGroupsKnown n groups
  pub names : AreNames groups
  pub distinct : AreDistinct groups

-- the reports rise from one of these decided places to the next
pub record AreReportChanges (decided : ℕ) (changes : List ReportChange) : Type 0 where
  pub places : IsStrictlyIncreasing (map (λ (c : ReportChange). c.place) changes)
  pub each : All (λ (c : ReportChange). (0 < c.place) × (c.place ≤ decided)) changes
  pub rising : IsStrictlyIncreasing (map (λ (c : ReportChange). c.reported) changes)
  pub reported : All (λ (c : ReportChange). (0 < c.reported) × (c.reported ≤ most_updates)) changes

-- what each record keeps, a wrong one too: it is complete, and what it speaks of is there
pub record IsRecord (r : RecordState) : Type 0 where
  pub site : is_name r.site ≡ true
  pub objects : AreObjects r.objects
  pub groups : AreGroups (length r.objects) r.groups
  pub limits : AreEntries r.limits
  pub scopes : AreEntriesKnown (length r.objects) r.groups r.limits
  pub begun : HoldFrom (length r.sets + 1) r.limits
  pub few : length r.sets ≤ most_updates
  pub sets : All IsSet r.sets
  pub known : All (AreKnown (length r.objects)) r.sets
  pub reports : AreReportChanges (length r.sets) r.reports
  pub rounds : AreRoundPlaces (length r.sets) r.rounds
  pub few_windows : length r.windows ≤ most_windows
  pub windows : All (λ w. (w.from ≤ length r.sets) × (w.to ≤ length r.sets)) r.windows
