-- What is lent of a record.
use Rattle.std.specs.Prelude.{ℕ, List, map}
use Rattle.ordup_audit.specs.declared.report_change.ReportChange.{ReportChange}
use Rattle.ordup_audit.specs.declared.report_changes.ReportChanges.{ReportChanges}
use Rattle.ordup_audit.specs.declared.report_changes.ReportChanges.TheVariants.{Changes, Steps}

-- a place and what was reported at its decision, as a report change
abbrev pub change_of_step : ℕ × ℕ → ReportChange
change_of_step step = record { place = step.0; reported = step.1 }

-- the report changes that are lent
abbrev pub changes_in : ReportChanges → List ReportChange
changes_in (Changes changes) = changes.now
changes_in (Steps steps) = map change_of_step steps.now
