-- The verdict on a series: whether it is yes, and the names of reasons against a record.
use Rattle.std.specs.Prelude.{ℕ, Bool, true, false, List, codes}
use Rattle.ordup_audit.specs.Reasons.{reason_name}
use Rattle.ordup_series.specs.declared.verdict.SeriesReason.{SeriesReason}
use Rattle.ordup_series.specs.declared.verdict.SeriesReason.TheVariants.{NotNext, NotSame, OfRecord}
use Rattle.ordup_series.specs.declared.verdict.SeriesVerdict.{SeriesVerdict}
use Rattle.ordup_series.specs.declared.verdict.SeriesVerdict.TheVariants.{Fewest, No}

-- the name by which verdicts show a reason
abbrev pub series_reason_name : SeriesReason → List ℕ
series_reason_name NotNext = codes "NotNext"
series_reason_name NotSame = codes "NotSame"
series_reason_name (OfRecord why) = reason_name why

-- the verdict is a number of rounds, and no reason
abbrev pub is_yes : SeriesVerdict → Bool
is_yes (Fewest n) = true
is_yes (No place row why) = false
