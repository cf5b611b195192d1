-- What the jobs that judge a series of records, or those of several sites, read and print, and the verdict as a line.
use Rattle.std.specs.Prelude.{◌≡◌, ℕ, List, ◌++◌, codes, Option, IfSome, Ok, Err}
use Rattle.std.specs.Fmt.{decimal}
use Rattle.ordup_series.specs.Reasons.{series_reason_name}
use Rattle.ordup_series.specs.declared.verdict.SeriesVerdict.{SeriesVerdict}
use Rattle.ordup_series.specs.declared.verdict.SeriesVerdict.TheVariants.{Fewest, No}
use Rattle.ordup_check.specs.SeriesVerdicts.{IsMalformedSeries, JudgesText}
use Rattle.ordup_check.specs.SitesVerdicts.{IsMalformedSites, JudgesSites}
use Rattle.ordup_faults.specs.Faults.{Outcome}
use Rattle.ordup_faults.specs.Printing.{PrintsIfMemory}
use Rattle.ordup_faults.specs.declared.fault.Fault.TheVariants as fault

-- the line that shows the verdict on a series
abbrev pub series_verdict_text : SeriesVerdict → List ℕ
series_verdict_text (Fewest n) = codes "yes " ++ decimal n ++ codes "\n"
series_verdict_text (No place row why) =
    codes "no " ++ decimal place ++ codes " " ++ decimal row ++ codes " " ++ series_reason_name why ++ codes "\n"

-- the exit status that goes with it
abbrev pub series_verdict_status : SeriesVerdict → ℕ
series_verdict_status (Fewest n) = 0
series_verdict_status (No place row why) = 1

-- the line of the verdict was printed, or nothing for want of memory
abbrev pub PrintsSeriesVerdict : SeriesVerdict → Option (List ℕ) → Option (List ℕ) → Outcome → Type 0
PrintsSeriesVerdict verdict = PrintsIfMemory (series_verdict_status verdict) (series_verdict_text verdict)

-- The records of these bytes were judged so, and the verdict was printed. Nothing was written where a record could not be read.
abbrev pub ChecksRecords : (List ℕ → SeriesVerdict → Type 0) → (List ℕ → ℕ → ℕ → Type 0) → Option (List ℕ) → Option (List ℕ)
    → Option (List ℕ) → Outcome → Type 0
ChecksRecords Judges IsMalformed had old new (Ok status) =
    (verdict : SeriesVerdict) × IfSome had (λ text. Judges text verdict) × PrintsSeriesVerdict verdict old new (Ok status)
ChecksRecords Judges IsMalformed had old new (Err fault.Write) =
    (verdict : SeriesVerdict) × IfSome had (λ text. Judges text verdict) × PrintsSeriesVerdict verdict old new (Err fault.Write)
ChecksRecords Judges IsMalformed had old new (Err (fault.MalformedRecord place row)) =
    IfSome had (λ text. IsMalformed text place row) × (new ≡ old)
ChecksRecords Judges IsMalformed had old new (Err fault.Read) = new ≡ old
ChecksRecords Judges IsMalformed had old new (Err fault.NoMemory) = new ≡ old
ChecksRecords Judges IsMalformed had old new (Err e) = ⊥

-- those of a series
abbrev pub ChecksSeries : Option (List ℕ) → Option (List ℕ) → Option (List ℕ) → Outcome → Type 0
ChecksSeries = ChecksRecords JudgesText IsMalformedSeries

-- those of several sites
abbrev pub ChecksSites : Option (List ℕ) → Option (List ℕ) → Option (List ℕ) → Outcome → Type 0
ChecksSites = ChecksRecords JudgesSites IsMalformedSites
