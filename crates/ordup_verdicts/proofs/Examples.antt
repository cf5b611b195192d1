-- What is printed of a series, worked out by hand: no definition can change its meaning unseen.
use Rattle.std.proofs.Common.{◌≡◌, List, [], ◌∷◌, Option, Some, Ok, codes, inl, inr, pos, refl, ℕ}
use Rattle.csv.specs.Machine.{next_record}
use Rattle.csv.specs.Reading.{Reached, strip_bom}
use Rattle.csv.specs.declared.parser.State.TheVariants as st
use Rattle.ordup_audit.specs.Records.{RecordState}
use Rattle.ordup_check.specs.SeriesReading.{TextTellsSeries}
use Rattle.ordup_check.proofs.SeriesTexts.{texts_tell_one_series}
use Rattle.ordup_verdicts.specs.SeriesLags.{LagsOfSeries, TellsWhole, none_before, offsets_of}

-- ---- a text without a record

empty : TextTellsSeries [] []
unfolding Reached next_record
empty = ([], (st.StartRecord, [], (refl, refl), refl), refl)

none_told : (records : List RecordState) → ¬ TellsWhole [] records
unfolding strip_bom
none_told records (some, short, told) = some (texts_tell_one_series [] records [] told empty)

-- is not ended as one whose lag was printed
not_done : (old new : Option (List ℕ)) → ¬ LagsOfSeries (Some []) old new (Ok 0)
not_done old new (inl (zero, done, valid, told, grew)) = none_told done told
not_done old new (inr (one, done, r, verdict, valid, begins, reason, grew)) = absurd cc

-- ---- records of three updates, with a window

abbrev three : RecordState
three = record {
  site = codes "a";
  objects = (codes "x", pos 1) ∷ [];
  groups = [];
  limits = [];
  sets = [] ∷ [] ∷ [] ∷ [];
  reports = [];
  rounds = 2 ∷ [];
  windows = (record { from = 0; to = 2 }) ∷ [];
}

-- the places and windows of a third record come after those of two
counted_on : offsets_of none_before (three ∷ three ∷ []) ≡ record { places = 6; windows = 2 }
counted_on = refl
