-- A series that is audited record by record, and the verdict on it.
use Rattle.std.specs.Prelude.{◌≡◌, ◌≤◌, ⊤, ℕ, ◌+◌, List, [], ◌∷◌, ◌++◌, length, Option, Some, None}
use Rattle.ordup_rounds.specs.Schedules.{Schedule, IsSchedule, StaysWithin, round_count}
use Rattle.ordup_audit.specs.Records.{RecordState, IsRecord}
use Rattle.ordup_audit.specs.Validity.{IsValid}
use Rattle.ordup_audit.specs.Verdicts.{IsVerdict}
use Rattle.ordup_audit.specs.declared.verdict.Verdict.TheVariants.{No}
use Rattle.ordup_series.specs.Ends.{DiffersAtRow, EndState, IsEnd}
use Rattle.ordup_series.specs.Series.{IsCertified, IsSeries, OfEach, is_within, length_of, rounds_in, series_of}
use Rattle.ordup_series.specs.declared.audit.SeriesAudit.{SeriesAudit}
use Rattle.ordup_series.specs.declared.verdict.SeriesReason.TheVariants.{NotNext, NotSame, OfRecord}
use Rattle.ordup_series.specs.declared.verdict.SeriesVerdict.{SeriesVerdict}
use Rattle.ordup_series.specs.declared.verdict.SeriesVerdict.TheVariants as verdict

-- ---- lists of records, of which there may be none

-- each record is next to the one before
abbrev pub AreSeries : List RecordState → Type 0
AreSeries [] = ⊤
AreSeries (r ∷ more) = IsSeries r more

-- this is so of each record
abbrev pub OfAll : (RecordState → Type 0) → List RecordState → Type 0
OfAll P [] = ⊤
OfAll P (r ∷ more) = OfEach P r more

-- each record is next to the one before, and valid
abbrev pub AreValidSeries : List RecordState → Type 0
AreValidSeries records = AreSeries records × OfAll IsValid records

-- how many rounds they have together
abbrev pub rounds_of : List RecordState → ℕ
rounds_of [] = 0
rounds_of (r ∷ more) = rounds_in r more

-- how many updates they have together
abbrev pub places_of : List RecordState → ℕ
places_of [] = 0
places_of (r ∷ more) = length r.sets + places_of more

-- the whole of the records is certified
abbrev pub IsWholeCertified : List RecordState → Type 0
IsWholeCertified [] = ⊥
IsWholeCertified (r ∷ more) = IsCertified (series_of r more)

-- no schedule of the whole of the records that keeps the limits has fewer rounds
abbrev pub NoFewerRoundsOfWhole : List RecordState → ℕ → Type 0
NoFewerRoundsOfWhole [] n = ⊥
NoFewerRoundsOfWhole (r ∷ more) n =
    (p : Schedule) → IsSchedule (length_of (series_of r more)) p →
    StaysWithin (is_within (series_of r more)) (series_of r more).reported_at (length_of (series_of r more)) p →
    n ≤ round_count p (length_of (series_of r more))

-- the last of a record and those after it
abbrev pub last_of : RecordState → List RecordState → RecordState
last_of r [] = r
last_of r (next ∷ more) = last_of next more

-- what the last of the records ends with, if there is one
abbrev pub IsLastEnd : List RecordState → Option EndState → Type 0
IsLastEnd [] end = end ≡ None
IsLastEnd (r ∷ more) end = (e : EndState) × IsEnd (last_of r more) e × (end ≡ Some e)

-- ---- the audit

-- an audit took just these records, which are a valid series
pub record HasAudited {A : Type 0} (a : SeriesAudit A) (done : List RecordState) : Type 0 where
  pub valid : AreValidSeries done
  pub end : IsLastEnd done a.end
  pub records : a.records ≡ length done
  pub places : a.places ≡ places_of done
  pub rounds : a.rounds ≡ rounds_of done

-- the verdict is a number of rounds for which this holds, or no such number
abbrev pub IfSeriesFewest : SeriesVerdict → (ℕ → Type 0) → Type 0
IfSeriesFewest (verdict.Fewest n) P = P n
IfSeriesFewest (verdict.No place row why) P = ⊤

-- The verdict on a record after those of a valid series: it is next to them and valid too, and they have so many rounds together; or
-- else the first reason against it.
abbrev pub IsSeriesVerdict : List RecordState → RecordState → SeriesVerdict → Type 0
IsSeriesVerdict done r (verdict.Fewest n) = AreValidSeries (done ++ r ∷ []) × (n ≡ rounds_of (done ++ r ∷ []))
IsSeriesVerdict done r (verdict.No place row NotNext) =
    (place ≡ length done + 1) × (AreSeries (done ++ r ∷ []) → ⊥) × (end : EndState) × IsLastEnd done (Some end) × DiffersAtRow end r row
IsSeriesVerdict done r (verdict.No place row NotSame) = ⊥
IsSeriesVerdict done r (verdict.No place row (OfRecord why)) =
    (place ≡ length done + 1) × AreSeries (done ++ r ∷ []) × (IsValid r → ⊥) × IsVerdict r (No row why)

-- What the verdict says of the whole: it is certified, and no schedule of it has fewer rounds; or no series of records that begins
-- with these is certified as a whole.
abbrev pub IsWholeVerdict : List RecordState → RecordState → SeriesVerdict → Type 0
IsWholeVerdict done r (verdict.Fewest n) = IsWholeCertified (done ++ r ∷ []) × NoFewerRoundsOfWhole (done ++ r ∷ []) n
IsWholeVerdict done r (verdict.No place row why) =
    (more : List RecordState) → AreSeries (done ++ r ∷ more) → OfAll IsRecord (done ++ r ∷ more) → IsWholeCertified (done ++ r ∷ more) → ⊥
