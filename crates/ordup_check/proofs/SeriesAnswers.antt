-- A text that tells a valid series, or the records of valid sites, is answered their rounds.
use Rattle.ordup_audit.proofs.Common.{◌++◌, ◌∙◌, ◌∷◌, ◌≡◌, ◌≤◌, [], ap, append_assoc, arith, Err, IfSome, inl, inr, length, List, Ok, Option, RecordState, refl, Result}
use Rattle.ordup_audit.proofs.Common.{Some, subst, sym, ℕ}
use Rattle.std.specs.Prelude.{◌≢◌, IfErr, IfOk}
use Rattle.csv.specs.Reading.{strip_bom}
use Rattle.ordup_audit.specs.Validity.{IsValid}
use Rattle.ordup_series.specs.Audits.{AreValidSeries, IsSeriesVerdict, rounds_of}
use Rattle.ordup_series.specs.declared.verdict.SeriesReason.{SeriesReason}
use Rattle.ordup_series.specs.declared.verdict.SeriesReason.TheVariants.{NotNext, NotSame, OfRecord}
use Rattle.ordup_series.specs.declared.verdict.SeriesVerdict.{SeriesVerdict}
use Rattle.ordup_series.specs.declared.verdict.SeriesVerdict.TheVariants.{Fewest, No}
use Rattle.ordup_series.proofs.AuditLemmas.{each-of, not-series}
use Rattle.ordup_check.specs.Answers.{AnswersSeries}
use Rattle.ordup_check.specs.SeriesReading.{IsMalformedAfter, TextBeginsSeries, TextTellsSeries, Within}
use Rattle.ordup_sites.specs.Sites.{AreValidSites}
use Rattle.ordup_sites.proofs.SitesLemmas.{no_reason as no_reason_of_sites}
use Rattle.ordup_check.specs.SeriesVerdicts.{IsMalformedSeries, JudgesText}
use Rattle.ordup_check.specs.SitesVerdicts.{IsMalformedSites, JudgesSites}
use Rattle.ordup_check.specs.declared.series.SeriesReadFault.{SeriesReadFault}
use Rattle.ordup_check.specs.declared.series.SeriesReadFault.TheVariants as fault
use Rattle.ordup_check.specs.declared.sizes.TheConstants.{MOST_SERIES_BYTES}
use Rattle.ordup_check.proofs.SeriesTexts.{begins_with_first, texts_of_a_series_are_not_malformed, texts_tell_one_series}

-- what is so of a text within the limit
short_is : (limit : ℕ) (text : List ℕ) (P : List ℕ → Type 0) → length text ≤ limit → Within limit P text → P (strip_bom text)
short_is limit text P few (inl (short, is)) = is
short_is limit text P few (inr (long, is)) = absurd (omega (arith, few, long))

-- there is no reason against a record of a valid series
no_reason : (done : List RecordState) (r : RecordState) (rest : List RecordState) (v : SeriesVerdict) → AreValidSeries (done ++ r ∷ rest)
    → IsSeriesVerdict done r v → (n : ℕ) × (v ≡ Fewest n)
no_reason done r rest (Fewest n) valid is = (n, refl)
no_reason done r rest (No place row NotNext) valid (at, other, end, last, differs) =
    absurd (not-series done r rest end row last differs valid.0)
no_reason done r rest (No place row NotSame) valid is = absurd is
no_reason done r rest (No place row (OfRecord why)) valid (at, next, invalid, is) = absurd (invalid (each-of IsValid done r rest valid.1))

-- what a verdict on a text says of the records that it tells, and so of a text that tells records against which there is no reason
module _ (Valid : List RecordState → Type 0) (Judges : List ℕ → SeriesVerdict → Type 0) (Malformed : List ℕ → ℕ → ℕ → Type 0)
    (fewest : (text : List ℕ) (n : ℕ) → Judges text (Fewest n)
    → (others : List RecordState) × TextTellsSeries (strip_bom text) others × (n ≡ rounds_of others))
    (against : (text : List ℕ) (place row : ℕ) (why : SeriesReason) → Judges text (No place row why)
    → (done : List RecordState) × (r : RecordState) × Within MOST_SERIES_BYTES (λ t. TextBeginsSeries t (done ++ r ∷ [])) text
    × ((rest : List RecordState) → Valid (done ++ r ∷ rest) → ⊥))
    (malformed_after : (text : List ℕ) (place row : ℕ) → Malformed text place row
    → (done : List RecordState) × Within MOST_SERIES_BYTES (λ t. IsMalformedAfter t done row) text)
    (text : List ℕ) (records : List RecordState) (few : length text ≤ MOST_SERIES_BYTES) (told : TextTellsSeries (strip_bom text) records)
  where
    verdict_is : (v : SeriesVerdict) → Valid records → Judges text v → v ≡ Fewest (rounds_of records)
    verdict_is (Fewest n) valid judged =
        let (others, also, is) = fewest text n judged in
        ap Fewest (is ∙ ap rounds_of (sym (texts_tell_one_series (strip_bom text) records others told also)))
    verdict_is (No place row why) valid judged =
        let (done, r, begins, never_valid) = against text place row why judged in
        let first : TextBeginsSeries (strip_bom text) (done ++ r ∷ []) =
        short_is MOST_SERIES_BYTES text (λ t. TextBeginsSeries t (done ++ r ∷ [])) few begins in
        let (rest, all) = begins_with_first (strip_bom text) records (done ++ r ∷ []) told first in
        absurd (never_valid rest (subst Valid (all ∙ append_assoc done (r ∷ []) rest) valid))

    not_malformed : (place row : ℕ) → records ≢ [] → Malformed text place row → ⊥
    not_malformed place row some is =
        let (done, after) = malformed_after text place row is in
        texts_of_a_series_are_not_malformed (strip_bom text) records done row some told
        (short_is MOST_SERIES_BYTES text (λ t. IsMalformedAfter t done row) few after)

    answered : (o : Option (List ℕ)) (result : Result SeriesVerdict SeriesReadFault) → o ≡ Some text → records ≢ []
        → Valid records → IfOk result (λ v. IfSome o (λ text. Judges text v))
        → IfErr result (λ e. (place row : ℕ) → e ≡ fault.Malformed place row → IfSome o (λ text. Malformed text place row))
        → AnswersSeries result records
    answered o (Ok v) is some valid judged malformed = verdict_is v valid (rw is at judged)
    answered o (Err fault.Read) is some valid judged malformed = tt
    answered o (Err fault.NoMemory) is some valid judged malformed = tt
    answered o (Err (fault.Malformed place row)) is some valid judged malformed =
        not_malformed place row some (rw is at (malformed place row refl))

-- ---- a series

series-fewest : (text : List ℕ) (n : ℕ) → JudgesText text (Fewest n)
    → (others : List RecordState) × TextTellsSeries (strip_bom text) others × (n ≡ rounds_of others)
series-fewest text n (others, short, also, of_others, is, certified, fewest) = (others, also, is)

series-against : (text : List ℕ) (place row : ℕ) (why : SeriesReason) → JudgesText text (No place row why)
    → (done : List RecordState) × (r : RecordState) × Within MOST_SERIES_BYTES (λ t. TextBeginsSeries t (done ++ r ∷ [])) text
    × ((rest : List RecordState) → AreValidSeries (done ++ r ∷ rest) → ⊥)
series-against text place row why (done, r, begins, before, is, whole) =
    (done, r, begins, λ rest valid. let (n, other) = no_reason done r rest (No place row why) valid is in absurd cc)

series-malformed : (text : List ℕ) (place row : ℕ) → IsMalformedSeries text place row
    → (done : List RecordState) × Within MOST_SERIES_BYTES (λ t. IsMalformedAfter t done row) text
series-malformed text place row (done, valid, at, is) = (done, is)

pub series_answered : (text : List ℕ) (records : List RecordState) → length text ≤ MOST_SERIES_BYTES → TextTellsSeries (strip_bom text) records
    → (o : Option (List ℕ)) (result : Result SeriesVerdict SeriesReadFault) → o ≡ Some text → records ≢ []
    → AreValidSeries records → IfOk result (λ v. IfSome o (λ text. JudgesText text v))
    → IfErr result (λ e. (place row : ℕ) → e ≡ fault.Malformed place row → IfSome o (λ text. IsMalformedSeries text place row))
    → AnswersSeries result records
series_answered = answered AreValidSeries JudgesText IsMalformedSeries series-fewest series-against series-malformed

-- ---- several sites

sites-fewest : (text : List ℕ) (n : ℕ) → JudgesSites text (Fewest n)
    → (others : List RecordState) × TextTellsSeries (strip_bom text) others × (n ≡ rounds_of others)
sites-fewest text n (others, some, short, also, of_others, fewest, is) = (others, also, is)

sites-against : (text : List ℕ) (place row : ℕ) (why : SeriesReason) → JudgesSites text (No place row why)
    → (done : List RecordState) × (r : RecordState) × Within MOST_SERIES_BYTES (λ t. TextBeginsSeries t (done ++ r ∷ [])) text
    × ((rest : List RecordState) → AreValidSites (done ++ r ∷ rest) → ⊥)
sites-against text place row why (done, r, begins, before, is) =
    (done, r, begins, λ rest valid. let (n, other) = no_reason_of_sites done r rest (No place row why) valid is in absurd cc)

sites-malformed : (text : List ℕ) (place row : ℕ) → IsMalformedSites text place row
    → (done : List RecordState) × Within MOST_SERIES_BYTES (λ t. IsMalformedAfter t done row) text
sites-malformed text place row (done, valid, at, is) = (done, is)

pub sites_answered : (text : List ℕ) (records : List RecordState) → length text ≤ MOST_SERIES_BYTES → TextTellsSeries (strip_bom text) records
    → (o : Option (List ℕ)) (result : Result SeriesVerdict SeriesReadFault) → o ≡ Some text → records ≢ []
    → AreValidSites records → IfOk result (λ v. IfSome o (λ text. JudgesSites text v))
    → IfErr result (λ e. (place row : ℕ) → e ≡ fault.Malformed place row → IfSome o (λ text. IsMalformedSites text place row))
    → AnswersSeries result records
sites_answered = answered AreValidSites JudgesSites IsMalformedSites sites-fewest sites-against sites-malformed
