-- Records of one site, one after another, and the whole that they are of.
use Rattle.std.specs.Prelude.{◌≡◌, ⊤, ℕ, ◌+◌, ◌≤◌, Bool, List, [], ◌∷◌, ◌++◌, length}
use Rattle.ordup_objects.specs.Joins.{BeginsAtEnd, joined}
use Rattle.ordup_objects.specs.Serial.{History, IsLegalHistory}
use Rattle.ordup_objects.specs.Tables.{names_of}
use Rattle.ordup_log.specs.Groups.{GroupList}
use Rattle.ordup_limits.specs.Entries.{in_force}
use Rattle.ordup_limits.specs.Joins.{joined_limits}
use Rattle.ordup_limits.specs.Limits.{Limits, within}
use Rattle.ordup_rounds.specs.Fewest.{IsCertificate}
use Rattle.ordup_rounds.specs.Joins.{joined_reports, moved_places, moved_windows}
use Rattle.ordup_rounds.specs.Schedules.{Schedule, IsSchedule, StaysWithin, round_count}
use Rattle.ordup_rounds.specs.declared.window.Window.{Window}
use Rattle.ordup_audit.specs.Records.{RecordState, IsRecord, history_of, report_at}
use Rattle.ordup_audit.specs.Validity.{IsValid}

-- ---- the whole

-- decided updates and groups, the limits and the reports of a site at each place, its rounds and its windows
pub record Whole : Type 0 where
  pub history : History
  pub groups : GroupList
  pub limits_at : ℕ → Limits
  pub reported_at : ℕ → ℕ
  pub rounds : List ℕ
  pub windows : List Window

abbrev pub length_of : Whole → ℕ
length_of w = length w.history.sets

-- the span from a to b passes none of the limits of the site at b
abbrev pub is_within : Whole → ℕ → ℕ → Bool
is_within w a b = within w.history w.groups (w.limits_at b) a b

-- a record alone
abbrev pub whole_of : RecordState → Whole
whole_of r = record {
  history = history_of r;
  groups = r.groups;
  limits_at = in_force r.limits;
  reported_at = report_at r.reports;
  rounds = r.rounds;
  windows = r.windows;
}

-- A whole with a next one behind it, whose places begin where the first one ends. Where they do, all of the first is reported.
abbrev pub joined_wholes : Whole → Whole → Whole
joined_wholes w next = record {
  history = joined w.history next.history;
  groups = w.groups;
  limits_at = joined_limits (length_of w) w.limits_at next.limits_at;
  reported_at = joined_reports (length_of w) w.reported_at next.reported_at;
  rounds = w.rounds ++ moved_places (length_of w) next.rounds;
  windows = w.windows ++ moved_windows (length_of w) next.windows;
}

-- a record, with the records after it behind it
abbrev pub series_of : RecordState → List RecordState → Whole
series_of r [] = whole_of r
series_of r (next ∷ more) = joined_wholes (whole_of r) (series_of next more)

-- ---- series

-- a record begins with what another one ends with: the site, the objects with their values, and the groups
pub record IsNext (r next : RecordState) : Type 0 where
  pub site : next.site ≡ r.site
  pub names : names_of next.objects ≡ names_of r.objects
  pub values : BeginsAtEnd (history_of r) (history_of next)
  pub groups : next.groups ≡ r.groups

-- each record is next to the one before
abbrev pub IsSeries : RecordState → List RecordState → Type 0
IsSeries r [] = ⊤
IsSeries r (next ∷ more) = IsNext r next × IsSeries next more

-- this is so of each of the records
abbrev pub OfEach : (RecordState → Type 0) → RecordState → List RecordState → Type 0
OfEach P r [] = P r
OfEach P r (next ∷ more) = P r × OfEach P next more

-- how many rounds there are in all records
abbrev pub rounds_in : RecordState → List RecordState → ℕ
rounds_in r [] = length r.rounds
rounds_in r (next ∷ more) = length r.rounds + rounds_in next more

-- ---- laws

-- the updates of a whole are legal one after the other, and its rounds and windows are a certificate
pub record IsCertified (w : Whole) : Type 0 where
  pub legal : IsLegalHistory w.history
  pub certificate : IsCertificate (is_within w) w.reported_at (length_of w) w.rounds w.windows

-- The whole of a series of valid records is certified.
abbrev pub ValidSeriesAreCertified : Type 0
ValidSeriesAreCertified =
    (r : RecordState) (more : List RecordState) → IsSeries r more → OfEach IsValid r more → IsCertified (series_of r more)

-- and where it is certified, each record is valid
abbrev pub CertifiedSeriesAreValid : Type 0
CertifiedSeriesAreValid =
    (r : RecordState) (more : List RecordState) → IsSeries r more → OfEach IsRecord r more → IsCertified (series_of r more) →
    OfEach IsValid r more

-- it has the rounds of all records
abbrev pub SeriesHaveTheRoundsOfTheirRecords : Type 0
SeriesHaveTheRoundsOfTheirRecords = (r : RecordState) (more : List RecordState) → length (series_of r more).rounds ≡ rounds_in r more

-- where the whole is certified, no schedule of the whole that keeps the limits has fewer rounds
abbrev pub CertifiedSeriesHaveTheFewestRounds : Type 0
CertifiedSeriesHaveTheFewestRounds =
    (r : RecordState) (more : List RecordState) → IsCertified (series_of r more) →
    (p : Schedule) → IsSchedule (length_of (series_of r more)) p →
    StaysWithin (is_within (series_of r more)) (series_of r more).reported_at (length_of (series_of r more)) p →
    rounds_in r more ≤ round_count p (length_of (series_of r more))
