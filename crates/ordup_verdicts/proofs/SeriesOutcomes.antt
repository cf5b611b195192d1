-- How a job that reads several records ends where one could not be read.
use Rattle.std.proofs.Common.{◌≡◌, ℕ, List, Option, Err, refl}
use Rattle.std.specs.Prelude.{IfSome}
use Rattle.ordup_series.specs.declared.verdict.SeriesVerdict.{SeriesVerdict}
use Rattle.ordup_check.specs.declared.series.SeriesReadFault.{SeriesReadFault}
use Rattle.ordup_check.specs.declared.series.SeriesReadFault.TheVariants as reading
use Rattle.ordup_verdicts.specs.Faults.{fault_of_series_reading}
use Rattle.ordup_verdicts.specs.Series.{ChecksRecords}

pub not_read : (Judges : List ℕ → SeriesVerdict → Type 0) (IsMalformed : List ℕ → ℕ → ℕ → Type 0) (had old : Option (List ℕ))
    (f : SeriesReadFault) → ((place row : ℕ) → f ≡ reading.Malformed place row → IfSome had (λ text. IsMalformed text place row))
    → ChecksRecords Judges IsMalformed had old old (Err (fault_of_series_reading f))
not_read Judges IsMalformed had old reading.Read malformed = refl
not_read Judges IsMalformed had old (reading.Malformed place row) malformed = (malformed place row refl, refl)
not_read Judges IsMalformed had old reading.NoMemory malformed = refl
