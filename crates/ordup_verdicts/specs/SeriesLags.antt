-- What the job that prints the lag of a series reads and prints.
use Rattle.std.specs.Prelude.{◌≡◌, ◌≢◌, ◌⊎◌, ℕ, ◌+◌, ◌≤◌, List, [], ◌∷◌, ◌++◌, length, Option, Some, None, IfSome, Result, Ok, Err}
use Rattle.std.specs.Io.KnownBytes.{Appends}
use Rattle.ordup_text.specs.Fronts.{AppendsFront}
use Rattle.csv.specs.Reading.{strip_bom}
use Rattle.ordup_audit.specs.Records.{RecordState}
use Rattle.ordup_series.specs.Audits.{AreValidSeries, HasAudited, IsSeriesVerdict, IsWholeVerdict}
use Rattle.ordup_series.specs.declared.audit.SeriesAudit.{SeriesAudit}
use Rattle.ordup_series.specs.declared.verdict.SeriesVerdict.{SeriesVerdict}
use Rattle.ordup_series.specs.declared.verdict.SeriesVerdict.TheVariants.{Fewest, No}
use Rattle.ordup_check.specs.SeriesReading.{IsMalformedAfter, TextBeginsSeries, TextTellsSeries, Within}
use Rattle.ordup_check.specs.declared.sizes.TheConstants.{MOST_SERIES_BYTES}
use Rattle.ordup_lag.specs.Texts.{lag_after, lag_of_series, offsets_after}
use Rattle.ordup_lag.specs.declared.offsets.Offsets.{Offsets}
use Rattle.ordup_faults.specs.Faults.{Outcome}
use Rattle.ordup_faults.specs.declared.fault.Fault.{Fault}
use Rattle.ordup_faults.specs.declared.fault.Fault.TheVariants as fault
use Rattle.ordup_verdicts.specs.Series.{series_verdict_text}

abbrev pub none_before : Offsets
none_before = record { places = 0; windows = 0 }

-- how many places and windows these records have, after so many
abbrev pub offsets_of : Offsets → List RecordState → Offsets
offsets_of before [] = before
offsets_of before (r ∷ more) = offsets_of (offsets_after before r) more

-- after these records, which are a valid series, the verdict is a reason against the next one
abbrev pub IsReason : List RecordState → RecordState → SeriesVerdict → Type 0
IsReason done r (Fewest n) = ⊥
IsReason done r (No place row why) = IsSeriesVerdict done r (No place row why) × IsWholeVerdict done r (No place row why)

-- ---- one record more

-- of the next record the lag was printed where there is no reason against it, and else the verdict; or a prefix of that, or nothing for
-- want of memory
abbrev pub PrintsNext : {A : Type 0} → List RecordState → RecordState → SeriesAudit A → Option (List ℕ) → Option (List ℕ)
    → Result (Option ℕ) Fault → Type 0
PrintsNext done r audit old new (Ok None) =
    HasAudited audit (done ++ r ∷ []) × Appends old new (lag_after (offsets_of none_before done) r)
PrintsNext done r audit old new (Ok (Some status)) =
    (status ≡ 1) × (verdict : SeriesVerdict) × IsReason done r verdict × Appends old new (series_verdict_text verdict)
PrintsNext done r audit old new (Err fault.Write) =
    (AreValidSeries (done ++ r ∷ []) × AppendsFront old new (lag_after (offsets_of none_before done) r))
    ⊎ ((verdict : SeriesVerdict) × IsReason done r verdict × AppendsFront old new (series_verdict_text verdict))
PrintsNext done r audit old new (Err fault.NoMemory) = new ≡ old
PrintsNext done r audit old new (Err e) = ⊥

-- ---- all records

-- the lag of records, from the first one on
abbrev pub lag_of : List RecordState → List ℕ
lag_of = lag_of_series none_before

-- the text begins with these records, if there is one
abbrev pub BeginsWith : List ℕ → List RecordState → Type 0
BeginsWith text records = (records ≡ []) ⊎ Within MOST_SERIES_BYTES (λ t. TextBeginsSeries t records) text

-- the text tells these records and nothing else, of which there is one
abbrev pub TellsWhole : List ℕ → List RecordState → Type 0
TellsWhole text records = (records ≢ []) × (length text ≤ MOST_SERIES_BYTES) × TextTellsSeries (strip_bom text) records

-- The text tells a valid series, whose lag was printed. Or it begins with one and with a record against which there is a reason: the lag
-- of the series was printed, and the verdict. Of both a prefix was where the writer failed. Where a record could not be read, or memory
-- was refused, the lag of a valid series was printed with which the text begins.
abbrev pub LagsOfSeries : Option (List ℕ) → Option (List ℕ) → Option (List ℕ) → Outcome → Type 0
LagsOfSeries had old new (Ok status) =
    ((status ≡ 0) × (done : List RecordState) × AreValidSeries done × IfSome had (λ text. TellsWhole text done) × Appends old new (lag_of done))
    ⊎ ((status ≡ 1) × (done : List RecordState) × (r : RecordState) × (verdict : SeriesVerdict) × AreValidSeries done
    × IfSome had (λ text. BeginsWith text (done ++ r ∷ [])) × IsReason done r verdict
    × Appends old new (lag_of done ++ series_verdict_text verdict))
LagsOfSeries had old new (Err fault.Write) =
    ((done : List RecordState) × AreValidSeries done × IfSome had (λ text. BeginsWith text done) × AppendsFront old new (lag_of done))
    ⊎ ((done : List RecordState) × (r : RecordState) × (verdict : SeriesVerdict) × AreValidSeries done
    × IfSome had (λ text. BeginsWith text (done ++ r ∷ [])) × IsReason done r verdict
    × AppendsFront old new (lag_of done ++ series_verdict_text verdict))
LagsOfSeries had old new (Err (fault.MalformedRecord place row)) =
    (done : List RecordState) × AreValidSeries done × (place ≡ length done + 1)
    × IfSome had (Within MOST_SERIES_BYTES (λ t. IsMalformedAfter t done row)) × Appends old new (lag_of done)
LagsOfSeries had old new (Err fault.Read) =
    (done : List RecordState) × AreValidSeries done × IfSome had (λ text. BeginsWith text done) × Appends old new (lag_of done)
LagsOfSeries had old new (Err fault.NoMemory) =
    (done : List RecordState) × AreValidSeries done × IfSome had (λ text. BeginsWith text done) × Appends old new (lag_of done)
LagsOfSeries had old new (Err e) = ⊥
