-- What a call that checks a record answers.
use Rattle.std.specs.Prelude.{◌≡◌, ◌⊎◌, ℕ, ◌<◌, ◌≤◌, List, ◌++◌, codes, length}
use Rattle.std.specs.Fmt.{decimal}
use Rattle.csv.specs.Reading.{strip_bom}
use Rattle.ordup_audit.specs.Reasons.{reason_name}
use Rattle.ordup_audit.specs.Records.{RecordState}
use Rattle.ordup_audit.specs.Validity.{IsValid}
use Rattle.ordup_audit.specs.Verdicts.{IsVerdict}
use Rattle.ordup_audit.specs.declared.verdict.Verdict.{Verdict}
use Rattle.ordup_audit.specs.declared.verdict.Verdict.TheVariants.{Fewest, No}
use Rattle.ordup_check.specs.Limits.{IsMalformedWithin}
use Rattle.ordup_check.specs.SeriesVerdicts.{IsMalformedSeries, JudgesText}
use Rattle.ordup_series.specs.Reasons.{series_reason_name}
use Rattle.ordup_series.specs.declared.verdict.SeriesVerdict.{SeriesVerdict}
use Rattle.ordup_series.specs.declared.verdict.SeriesVerdict.TheVariants as of_series
use Rattle.ordup_rows.specs.Sizes.{most_record_bytes}
use Rattle.ordup_rows.specs.Texts.{TextTells}
use Rattle.ordup_c.specs.Records.{Copies, Lacks}
use Rattle.ordup_c.specs.declared.status.TheConstants.{DONE, MALFORMED, NO_MEMORY, TOO_LONG}

-- the line of a verdict
abbrev pub verdict_line : Verdict → List ℕ
verdict_line (Fewest n) = codes "yes " ++ decimal n ++ codes "\n"
verdict_line (No row reason) = codes "no " ++ decimal row ++ codes " " ++ reason_name reason ++ codes "\n"

-- the line of a row that breaks a rule
abbrev pub malformed_line : ℕ → List ℕ
malformed_line row = codes "malformed " ++ decimal row ++ codes "\n"

-- the verdict on a record: it is valid where the verdict is a number, which is that of its rounds, and else the first reason
-- against it is told
abbrev pub Judges : RecordState → Verdict → Type 0
Judges r (Fewest n) = IsValid r × (n ≡ length r.rounds)
Judges r (No row reason) = (IsValid r → ⊥) × IsVerdict r (No row reason)

-- the text tells a record, and the line that of the verdict on it
abbrev pub IsJudged : List ℕ → List ℕ → Type 0
IsJudged text line =
    (r : RecordState) × (verdict : Verdict)
    × (length text ≤ most_record_bytes)
    × TextTells (strip_bom text) r
    × Judges r verdict
    × (line ≡ verdict_line verdict)

-- the text tells no record, and the line tells the first row that breaks a rule
abbrev pub IsMalformed : List ℕ → List ℕ → Type 0
IsMalformed text line = (row : ℕ) × IsMalformedWithin most_record_bytes text row × (line ≡ malformed_line row)

-- a line was found for a text, and the status that goes with it
abbrev pub Finds : List ℕ → List ℕ → ℕ → Type 0
Finds text line status = (IsJudged text line × (status ≡ DONE)) ⊎ (IsMalformed text line × (status ≡ MALFORMED))

-- of the line that was found for a text the length was told, and the line written where it fits; or there is none, for want of
-- memory, or since the text has more bytes than a record may
abbrev pub ChecksCall : List ℕ → List ℕ → List ℕ → ℕ → ℕ → Type 0
ChecksCall text old new written status =
    ((line : List ℕ) × (found : ℕ) × Finds text line found × (written ≡ length line) × Copies line found old new status)
    ⊎ (Lacks NO_MEMORY old new written status ⊎ ((most_record_bytes < length text) × Lacks TOO_LONG old new written status))

-- ---- a series of records

-- the line of the verdict on a series
abbrev pub series_line : SeriesVerdict → List ℕ
series_line (of_series.Fewest n) = codes "yes " ++ decimal n ++ codes "\n"
series_line (of_series.No place row why) =
    codes "no " ++ decimal place ++ codes " " ++ decimal row ++ codes " " ++ series_reason_name why ++ codes "\n"

-- the line of a row of a record that breaks a rule
abbrev pub malformed_record_line : ℕ → ℕ → List ℕ
malformed_record_line place row = codes "malformed " ++ decimal place ++ codes " " ++ decimal row ++ codes "\n"

-- a line was found for a text of records, and the status that goes with it
abbrev pub FindsSeries : List ℕ → List ℕ → ℕ → Type 0
FindsSeries text line status =
    ((verdict : SeriesVerdict) × JudgesText text verdict × (line ≡ series_line verdict) × (status ≡ DONE))
    ⊎ ((place : ℕ) × (row : ℕ) × IsMalformedSeries text place row × (line ≡ malformed_record_line place row) × (status ≡ MALFORMED))

-- of the line that was found for a text of records the length was told, and the line written where it fits; or there is none, for want
-- of memory
abbrev pub ChecksSeriesCall : List ℕ → List ℕ → List ℕ → ℕ → ℕ → Type 0
ChecksSeriesCall text old new written status =
    ((line : List ℕ) × (found : ℕ) × FindsSeries text line found × (written ≡ length line) × Copies line found old new status)
    ⊎ Lacks NO_MEMORY old new written status
