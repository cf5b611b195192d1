-- The verdict on a text of records of several sites, one after another.
use Rattle.std.specs.Prelude.{◌≡◌, ◌≢◌, ℕ, ◌+◌, ◌≤◌, List, [], ◌∷◌, ◌++◌, length}
use Rattle.csv.specs.Reading.{strip_bom}
use Rattle.ordup_audit.specs.Records.{RecordState}
use Rattle.ordup_series.specs.Audits.{rounds_of}
use Rattle.ordup_series.specs.declared.verdict.SeriesVerdict.{SeriesVerdict}
use Rattle.ordup_series.specs.declared.verdict.SeriesVerdict.TheVariants.{Fewest, No}
use Rattle.ordup_sites.specs.Audits.{IsSitesVerdict}
use Rattle.ordup_sites.specs.Sites.{AreValidSites, HaveFewestRounds}
use Rattle.ordup_check.specs.SeriesReading.{IsMalformedAfter, TextBeginsSeries, TextTellsSeries, Within}
use Rattle.ordup_check.specs.declared.sizes.TheConstants.{MOST_SERIES_BYTES}

-- The text tells just these records: each is valid, each two are the same as far as both go, and the rounds of each are its fewest. Or it
-- begins with such records and with one more, against which there is this reason.
abbrev pub JudgesSites : List ℕ → SeriesVerdict → Type 0
JudgesSites text (Fewest n) =
    (records : List RecordState) × (records ≢ []) × (length text ≤ MOST_SERIES_BYTES) × TextTellsSeries (strip_bom text) records
    × AreValidSites records × HaveFewestRounds records × (n ≡ rounds_of records)
JudgesSites text (No place row why) =
    (done : List RecordState) × (r : RecordState) × Within MOST_SERIES_BYTES (λ t. TextBeginsSeries t (done ++ r ∷ [])) text
    × AreValidSites done × IsSitesVerdict done r (No place row why)

-- the text has a record that is malformed at a row, after others that are of valid sites
abbrev pub IsMalformedSites : List ℕ → ℕ → ℕ → Type 0
IsMalformedSites text place row =
    (done : List RecordState) × AreValidSites done × (place ≡ length done + 1)
    × Within MOST_SERIES_BYTES (λ t. IsMalformedAfter t done row) text
