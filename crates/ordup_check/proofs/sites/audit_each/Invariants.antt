use Rattle.std.specs.Prelude.{◌≡◌, ℕ, List, [], length}
use Rattle.ordup_audit.specs.Records.{RecordState}
use Rattle.ordup_sites.specs.Audits.{HasAudited}
use Rattle.ordup_check.specs.Reading.{IsPlain}
use Rattle.ordup_check.specs.SeriesReading.{HasReadRecords}
use Rattle.ordup_check.specs.declared.sizes.TheConstants.{MOST_SERIES_BYTES}
use Rattle.ordup_check.proofs.sites.audit_each.Given as goal

-- the records so far were read, and the audit took them
abbrev pub invariant-loop-count : goal.invariant-loop-count
invariant-loop-count g l =
    IsPlain l.records.rdr × (done : List RecordState) × HasAudited l.audit done × (length done ≡ l.count)
    × ((text : List ℕ) → HasReadRecords g.R.Read.remaining MOST_SERIES_BYTES l.fn.records text []
    → HasReadRecords g.R.Read.remaining MOST_SERIES_BYTES l.records text done)
