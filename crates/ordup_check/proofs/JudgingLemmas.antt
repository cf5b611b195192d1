-- The verdict on a series as it is found: after each record, and after the last.
use Rattle.ordup_audit.proofs.Common.{◌++◌, ◌∷◌, ◌≡◌, ◌≤◌, [], Err, IfSome, length, List, None, Ok, Option, RecordState, false, refl, Result, Some, subst, sym, ℕ}
use Rattle.std.specs.Prelude.{IfErr, IfOk}
use Rattle.csv.specs.Reading.{strip_bom}
use Rattle.ordup_series.specs.Reasons.{is_yes}
use Rattle.ordup_series.specs.Audits.{AreValidSeries, IsSeriesVerdict, IsWholeVerdict, NoFewerRoundsOfWhole, rounds_of}
use Rattle.ordup_series.specs.declared.verdict.SeriesVerdict.{SeriesVerdict}
use Rattle.ordup_series.specs.declared.verdict.SeriesVerdict.TheVariants.{Fewest, No}
use Rattle.ordup_series.proofs.AuditLemmas.{whole-certified, whole-fewest}
use Rattle.ordup_check.specs.SeriesReading.{TextBeginsSeries, TextTellsSeries, Within}
use Rattle.ordup_sites.specs.Audits.{IsSitesVerdict}
use Rattle.ordup_sites.specs.Sites.{AreValidSites}
use Rattle.ordup_check.specs.SeriesVerdicts.{JudgesText, series_fault}
use Rattle.ordup_check.specs.SitesVerdicts.{JudgesSites}
use Rattle.ordup_check.specs.declared.reading.RecordReadFault.{RecordReadFault}
use Rattle.ordup_check.specs.declared.reading.RecordReadFault.TheVariants as of_record
use Rattle.ordup_check.specs.declared.series.SeriesReadFault.{SeriesReadFault}
use Rattle.ordup_check.specs.declared.series.SeriesReadFault.TheVariants as of_series
use Rattle.ordup_check.specs.declared.sizes.TheConstants.{MOST_SERIES_BYTES}

-- all records are valid
pub judged-all : (text : List ℕ) (done : List RecordState) (n : ℕ) → (done ≡ [] → ⊥) → length text ≤ MOST_SERIES_BYTES
    → TextTellsSeries (strip_bom text) done → AreValidSeries done → n ≡ rounds_of done → JudgesText text (Fewest n)
judged-all text done n some short told valid is =
    let certified = whole-certified done some valid in
    (done, short, told, valid, is, certified, subst (NoFewerRoundsOfWhole done) (sym is) (whole-fewest done certified))

-- there is a reason against the next one
pub judged-no : (text : List ℕ) (done : List RecordState) (r : RecordState) (v : SeriesVerdict)
    → Within MOST_SERIES_BYTES (λ t. TextBeginsSeries t (done ++ r ∷ [])) text
    → AreValidSeries done → IsSeriesVerdict done r v → IsWholeVerdict done r v → is_yes v ≡ false → JudgesText text v
judged-no text done r (Fewest n) begins valid is whole other = absurd cc
judged-no text done r (No place row why) begins valid is whole other = (done, r, begins, valid, is, whole)

-- there is a reason against the next one of several sites
pub judged-no-sites : (text : List ℕ) (done : List RecordState) (r : RecordState) (v : SeriesVerdict)
    → Within MOST_SERIES_BYTES (λ t. TextBeginsSeries t (done ++ r ∷ [])) text
    → AreValidSites done → IsSitesVerdict done r v → is_yes v ≡ false → JudgesSites text v
judged-no-sites text done r (Fewest n) begins valid is other = absurd cc
judged-no-sites text done r (No place row why) begins valid is other = (done, r, begins, valid, is)

-- the fault of a series is that of the record at this place
pub malformed-of : (f : RecordReadFault) (n place row : ℕ) → series_fault f n ≡ of_series.Malformed place row
    → (f ≡ of_record.Malformed row) × (place ≡ n)
malformed-of of_record.Read n place row is = absurd cc
malformed-of (of_record.Malformed other) n place row is = (cc, cc)
malformed-of of_record.NoMemory n place row is = absurd cc

-- ---- of a reader whose bytes are known

pub judged-known : {A E : Type 0} (o : Option (List ℕ)) (result : Result A E) (H : List ℕ → Type 0) (J : List ℕ → A → Type 0)
    → ((text : List ℕ) → o ≡ Some text → H text) → IfOk result (λ v. (text : List ℕ) → H text → J text v)
    → IfOk result (λ v. IfSome o (λ text. J text v))
judged-known o (Err e) H J has judged = tt
judged-known None (Ok v) H J has judged = tt
judged-known (Some text) (Ok v) H J has judged = judged text (has text refl)

pub malformed-known : {A : Type 0} (o : Option (List ℕ)) (result : Result A SeriesReadFault) (H : List ℕ → Type 0)
    (M : List ℕ → ℕ → ℕ → Type 0) → ((text : List ℕ) → o ≡ Some text → H text)
    → IfErr result (λ e. (place row : ℕ) → e ≡ of_series.Malformed place row → (text : List ℕ) → H text → M text place row)
    → IfErr result (λ e. (place row : ℕ) → e ≡ of_series.Malformed place row → IfSome o (λ text. M text place row))
malformed-known o (Ok v) H M has told = tt
malformed-known None (Err e) H M has told = λ place row is. tt
malformed-known (Some text) (Err e) H M has told = λ place row is. told place row is text (has text refl)
