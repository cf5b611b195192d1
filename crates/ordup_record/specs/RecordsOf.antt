-- The record of a site of a primary.
use Rattle.std.specs.Prelude.{ℕ, zero, suc, ◌==◌, if◌then◌else◌, Option, Some, None, List, [], ◌∷◌, ◌++◌, length, nat_lt, take}
use Rattle.std.specs.Prelude.{slice_index_or}
use Rattle.ordup_objects.specs.declared.refusal.Refusal.{Refusal}
use Rattle.ordup_objects.specs.declared.refusal.Refusal.TheVariants.{UnknownSite}
use Rattle.ordup_primary.specs.Primaries.{PrimaryState, progress_at, limits_at, reported_at}
use Rattle.ordup_audit.specs.Records.{RecordState}
use Rattle.ordup_audit.specs.declared.report_change.ReportChange.{ReportChange}

-- what a site had reported at the decision of place k, 0 before the first
abbrev pub reported_before_or_at : (ℕ → ℕ) → ℕ → ℕ
reported_before_or_at reported_at zero = 0
reported_before_or_at reported_at (suc k) = reported_at (suc k)

-- the places up to d at whose decision a site had reported another number than at the decision before
abbrev pub report_changes : (ℕ → ℕ) → ℕ → List ReportChange
report_changes reported_at zero = []
report_changes reported_at (suc d) =
    if reported_at (suc d) == reported_before_or_at reported_at d then report_changes reported_at d
    else report_changes reported_at d ++ record { place = suc d; reported = reported_at (suc d) } ∷ []

-- what the primary has of site s: its declarations, its decided updates, and the limits, reports, rounds and windows of the site
abbrev pub record_of : PrimaryState → ℕ → RecordState
record_of p s = record {
  site = (slice_index_or p.setup.sites s ([], 0)).0;
  objects = p.setup.objects;
  groups = p.setup.groups;
  limits = limits_at p s;
  sets = take p.decided p.log.sets;
  reports = report_changes (reported_at (progress_at p s)) p.decided;
  rounds = (progress_at p s).rounds;
  windows = (progress_at p s).windows;
}

-- why a record of site s is refused, if it is
abbrev pub record_refusal : PrimaryState → ℕ → Option Refusal
record_refusal p s = if nat_lt s (length p.sites) then None else Some UnknownSite
