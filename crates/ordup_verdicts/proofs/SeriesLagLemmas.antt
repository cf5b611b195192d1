-- The lag of a series as it is printed, record by record.
use Rattle.std.proofs.Common.{◌≡◌, ◌⊎◌, ◌∙◌, ℕ, ◌+◌, List, [], ◌∷◌, ◌++◌, length, Option, Some, None, IfSome, Ok, Err, ap, arith, inl, inr, refl, subst, sym}
use Rattle.std.proofs.lemmas.List.{append-nil, append_assoc}
use Rattle.std.specs.Io.KnownBytes.{Appends, Keeps}
use Rattle.std.proofs.KnownBytes.{Appends-kept, Appends-trans}
use Rattle.ordup_text.specs.Fronts.{AppendsFront}
use Rattle.ordup_audit.specs.Records.{RecordState}
use Rattle.ordup_audit.specs.Validity.{IsValid}
use Rattle.ordup_series.specs.Audits.{AreValidSeries, OfAll, places_of, rounds_of}
use Rattle.ordup_series.specs.Series.{OfEach}
use Rattle.ordup_series.specs.declared.audit.SeriesAudit.{SeriesAudit}
use Rattle.ordup_check.specs.SeriesReading.{IsMalformedAfter, Within}
use Rattle.ordup_check.specs.declared.reading.RecordReadFault.{RecordReadFault}
use Rattle.ordup_check.specs.declared.reading.RecordReadFault.TheVariants as reading
use Rattle.ordup_check.specs.declared.sizes.TheConstants.{MOST_SERIES_BYTES}
use Rattle.ordup_lag.specs.Texts.{lag_after, lag_of_series, offsets_after}
use Rattle.ordup_lag.specs.declared.offsets.Offsets.{Offsets}
use Rattle.ordup_faults.specs.Faults.{Outcome}
use Rattle.ordup_faults.specs.declared.fault.Fault.{Fault}
use Rattle.ordup_faults.specs.declared.fault.Fault.TheVariants as fault
use Rattle.ordup_lag.specs.declared.writing.LagFault.{LagFault}
use Rattle.ordup_lag.specs.declared.writing.LagFault.TheVariants as lag
use Rattle.ordup_verdicts.specs.Faults.{fault_of_lag, fault_of_next}
use Rattle.ordup_verdicts.specs.Series.{series_verdict_text}
use Rattle.ordup_verdicts.specs.SeriesLags.{BeginsWith, LagsOfSeries, PrintsNext, TellsWhole, lag_of, none_before, offsets_of}

-- ---- one record more

series_lag-push : (before : Offsets) (done : List RecordState) (r : RecordState)
    → lag_of_series before (done ++ r ∷ []) ≡ lag_of_series before done ++ lag_after (offsets_of before done) r
series_lag-push before [] r = append-nil (lag_after before r)
series_lag-push before (q ∷ done) r =
    ap (λ t. lag_after before q ++ t) (series_lag-push (offsets_after before q) done r)
    ∙ sym (append_assoc (lag_after before q) (lag_of_series (offsets_after before q) done)
    (lag_after (offsets_of (offsets_after before q) done) r))

pub lag-push : (done : List RecordState) (r : RecordState)
    → lag_of (done ++ r ∷ []) ≡ lag_of done ++ lag_after (offsets_of none_before done) r
lag-push done r = series_lag-push none_before done r

-- ---- how many places and windows there were

-- a valid record has a window for each round
windows-rounds : (r : RecordState) → IsValid r → length r.windows ≡ length r.rounds
windows-rounds r valid = valid.certificate.count

of-head : (P : RecordState → Type 0) (r : RecordState) (more : List RecordState) → OfEach P r more → P r × OfAll P more
of-head P r [] is = (is, tt)
of-head P r (next ∷ more) (is, rest) = (is, rest)

rounds_of-cons : (r : RecordState) (more : List RecordState) → rounds_of (r ∷ more) ≡ length r.rounds + rounds_of more
rounds_of-cons r [] = omega (arith)
rounds_of-cons r (next ∷ more) = refl

places-are : (before : Offsets) (done : List RecordState) → (offsets_of before done).places ≡ before.places + places_of done
places-are before [] = omega (arith)
places-are before (r ∷ more) = omega (arith, places-are (offsets_after before r) more)

windows-are : (before : Offsets) (done : List RecordState) → OfAll IsValid done
    → (offsets_of before done).windows ≡ before.windows + rounds_of done
windows-are before [] valid = omega (arith)
windows-are before (r ∷ more) valid =
    let (first, rest) = of-head IsValid r more valid in
    omega (arith, windows-are (offsets_after before r) more rest, windows-rounds r first, rounds_of-cons r more)

same-offsets : (o : Offsets) (a b : ℕ) → o.places ≡ a → o.windows ≡ b → o ≡ record { places = a; windows = b }
same-offsets o a b places windows = rw (← places, ← windows) refl

-- after these records there are as many places and windows as the audit counts places and rounds
pub offsets-are : (done : List RecordState) → OfAll IsValid done
    → offsets_of none_before done ≡ record { places = places_of done; windows = rounds_of done }
offsets-are done valid =
    let places = places-are none_before done in
    let windows = windows-are none_before done valid in
    same-offsets (offsets_of none_before done) (places_of done) (rounds_of done) (omega (arith, places)) (omega (arith, windows))

pub before-is : (done : List RecordState) (places windows : ℕ) → OfAll IsValid done → places ≡ places_of done → windows ≡ rounds_of done
    → record { places = places; windows = windows } ≡ offsets_of none_before done
before-is done places windows valid is_places is_windows = rw (is_places, is_windows) (sym (offsets-are done valid))

-- ---- printing

pub front-of : (a b : Option (List ℕ)) (text : List ℕ) → Appends a b text → AppendsFront a b text
front-of a b text grew = (text, [], sym (append-nil text), grew)

front-after : (a b c : Option (List ℕ)) (text more : List ℕ) → Appends a b text → AppendsFront b c more → AppendsFront a c (text ++ more)
front-after a b c text more grew (front, back, is, grew_more) =
    (text ++ front, back, ap (λ t. text ++ t) is ∙ sym (append_assoc text front back), Appends-trans a b c text front grew grew_more)

module _ {A : Type 0} (done : List RecordState) (r : RecordState) (audit : SeriesAudit A) (old new : Option (List ℕ)) where
  -- the lag of the next record is not written
  pub lag-fails : (f : LagFault) → AreValidSeries (done ++ r ∷ []) → AppendsFront old new (lag_after (offsets_of none_before done) r)
      → (f ≡ lag.NoMemory → new ≡ old) → PrintsNext done r audit old new (Err (fault_of_lag f))
  lag-fails lag.Write valid front refused = inl (valid, front)
  lag-fails lag.NoMemory valid front refused = refused refl

-- ---- what is known of the text

pub known : {P Q : List ℕ → Type 0} (had : Option (List ℕ)) → ((text : List ℕ) → P text → Q text) → IfSome had P → IfSome had Q
known None h is = tt
known (Some text) h is = h text is

pub each-known : {P : List ℕ → Type 0} (o : Option (List ℕ)) → ((text : List ℕ) → o ≡ Some text → P text) → IfSome o P
each-known None h = tt
each-known (Some text) h = h text refl

-- ---- how the job ends

module _ (had old mid : Option (List ℕ)) (done : List RecordState) (valid : AreValidSeries done) (grew : Appends old mid (lag_of done)) where
  -- the next record cannot be read
  pub reading-ends : (f : RecordReadFault) (count : ℕ) → length done ≡ count → IfSome had (λ text. BeginsWith text done)
      → ((n : ℕ) → f ≡ reading.Malformed n → IfSome had (λ text. Within MOST_SERIES_BYTES (λ t. IsMalformedAfter t done n) text))
      → LagsOfSeries had old mid (Err (fault_of_next f (count + 1)))
  reading-ends reading.Read count counted begins malformed = (done, valid, begins, grew)
  reading-ends reading.NoMemory count counted begins malformed = (done, valid, begins, grew)
  reading-ends (reading.Malformed n) count counted begins malformed =
      (done, valid, ap (λ k. k + 1) (sym counted), malformed n refl, grew)

  module _ {A : Type 0} (new : Option (List ℕ)) (r : RecordState) (audit : SeriesAudit A)
      (begins : IfSome had (λ text. BeginsWith text done)) (begins_more : IfSome had (λ text. BeginsWith text (done ++ r ∷ []))) where
    -- its lag or its verdict cannot be printed
    pub printing-ends : (f : Fault) → PrintsNext done r audit mid new (Err f) → LagsOfSeries had old new (Err f)
    printing-ends fault.Write printed = elim printed [
      | inl (more, front) ↦ inl (
        done ++ r ∷ [],
        more,
        begins_more,
        subst (AppendsFront old new) (sym (lag-push done r)) (front-after old mid new (lag_of done) _ grew front),
      )
      | inr (verdict, is, front) ↦ inr (
        done,
        r,
        verdict,
        valid,
        begins_more,
        is,
        front-after old mid new (lag_of done) (series_verdict_text verdict) grew front,
      )
    ]
    printing-ends fault.NoMemory same = (done, valid, begins, subst (λ b. Appends old b (lag_of done)) (sym same) grew)
    printing-ends fault.Read none = absurd none
    printing-ends fault.TooLong none = absurd none
    printing-ends (fault.Malformed row) none = absurd none
    printing-ends (fault.MalformedRecord place row) none = absurd none
    printing-ends fault.NotStarted none = absurd none
    printing-ends fault.UnknownSite none = absurd none
    printing-ends (fault.NotYet number) none = absurd none
    printing-ends fault.Mixed none = absurd none

    -- there is a reason against it
    pub judging-ends : (status : ℕ) → PrintsNext done r audit mid new (Ok (Some status)) → LagsOfSeries had old new (Ok status)
    judging-ends status (is_one, verdict, is, more) =
        inr (
          is_one,
          done,
          r,
          verdict,
          valid,
          begins_more,
          is,
          Appends-trans old mid new (lag_of done) (series_verdict_text verdict) grew more,
        )

-- the lag of one record more was printed
pub printed-more : (old mid : Option (List ℕ)) (done : List RecordState) → Appends old mid (lag_of done)
    → (new : Option (List ℕ)) (r : RecordState) → Appends mid new (lag_after (offsets_of none_before done) r)
    → Appends old new (lag_of (done ++ r ∷ []))
printed-more old mid done grew new r more =
    subst (Appends old new) (sym (lag-push done r)) (Appends-trans old mid new (lag_of done) _ grew more)

-- ---- all records

module _ (had old mid new : Option (List ℕ)) (done : List RecordState) (valid : AreValidSeries done) (grew : Appends old mid (lag_of done))
    (kept : Keeps mid new) where
  pub all-printed : IfSome had (λ text. TellsWhole text done) → LagsOfSeries had old new (Ok 0)
  all-printed told = inl (refl, done, valid, told, Appends-kept old mid new (lag_of done) grew kept)

  pub flush-fails : IfSome had (λ text. BeginsWith text done) → LagsOfSeries had old new (Err fault.Write)
  flush-fails begins = inl (done, valid, begins, front-of old new (lag_of done) (Appends-kept old mid new (lag_of done) grew kept))

  pub lag-ended : (outcome : Outcome) → (outcome ≡ Ok 0) ⊎ (outcome ≡ Err fault.Write)
      → IfSome had (λ text. TellsWhole text done) → IfSome had (λ text. BeginsWith text done)
      → LagsOfSeries had old new outcome
  lag-ended outcome (inl is) told begins = subst (LagsOfSeries had old new) (sym is) (all-printed told)
  lag-ended outcome (inr is) told begins = subst (LagsOfSeries had old new) (sym is) (flush-fails begins)
