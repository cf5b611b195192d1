-- A valid series with one record more, and why a verdict on it is one on the whole.
use Rattle.std.proofs.Common.{IfSome, true, ◌≡◌, ◌∙◌, ℕ, ◌+◌, List, [], ◌∷◌, ◌++◌, length, Option, Some, None, take, arith, refl, sym, ap, subst, inl, inr}
use Rattle.ordup_objects.specs.Tables.{Objects, initial_state, names_of}
use Rattle.ordup_audit.specs.Records.{RecordState, IsRecord}
use Rattle.ordup_audit.specs.Validity.{IsValid}
use Rattle.ordup_series.specs.Reasons.{is_yes}
use Rattle.ordup_series.specs.declared.verdict.SeriesVerdict.{SeriesVerdict}
use Rattle.ordup_series.specs.declared.verdict.SeriesVerdict.TheVariants.{Fewest, No}
use Rattle.ordup_series.specs.Audits.{AreSeries, AreValidSeries, IfSeriesFewest, IsLastEnd, IsSeriesVerdict, IsWholeCertified, NoFewerRoundsOfWhole, OfAll, last_of, places_of, rounds_of}
use Rattle.ordup_series.specs.Ends.{BeginsWith, DiffersAtRow, EndState, IsEnd}
use Rattle.ordup_series.specs.Series.{IsNext, IsSeries, OfEach, rounds_in}
use Rattle.ordup_series.proofs.SeriesLemmas.{certified_series_are_valid, certified_series_have_the_fewest_rounds, valid_series_are_certified}

-- ---- one record more

series-push : (r : RecordState) (more : List RecordState) (x : RecordState) → IsSeries r more → IsNext (last_of r more) x
    → IsSeries r (more ++ x ∷ [])
series-push r [] x is next = (next, tt)
series-push r (one ∷ more) x (first, rest) next = (first, series-push one more x rest next)

each-push : (P : RecordState → Type 0) (r : RecordState) (more : List RecordState) (x : RecordState) → OfEach P r more → P x
    → OfEach P r (more ++ x ∷ [])
each-push P r [] x is also = (is, also)
each-push P r (one ∷ more) x (first, rest) also = (first, each-push P one more x rest also)

rounds-push : (r : RecordState) (more : List RecordState) (x : RecordState)
    → rounds_in r (more ++ x ∷ []) ≡ rounds_in r more + length x.rounds
rounds-push r [] x = refl
rounds-push r (one ∷ more) x = omega (arith, rounds-push one more x)

last-push : (r : RecordState) (more : List RecordState) (x : RecordState) → last_of r (more ++ x ∷ []) ≡ x
last-push r [] x = refl
last-push r (one ∷ more) x = last-push one more x

-- the record after the first ones is next to the last of them
next-of : (r : RecordState) (more : List RecordState) (x : RecordState) (after : List RecordState) → IsSeries r (more ++ x ∷ after)
    → IsNext (last_of r more) x
next-of r [] x after (next, rest) = next
next-of r (one ∷ more) x after (first, rest) = next-of one more x after rest

each-at : (P : RecordState → Type 0) (r : RecordState) (more : List RecordState) (x : RecordState) (after : List RecordState)
    → OfEach P r (more ++ x ∷ after) → P x
each-at P r [] x [] (first, is) = is
each-at P r [] x (y ∷ after) (first, (is, rest)) = is
each-at P r (one ∷ more) x after (first, rest) = each-at P one more x after rest

pub each-of : (P : RecordState → Type 0) (done : List RecordState) (x : RecordState) (after : List RecordState) → OfAll P (done ++ x ∷ after)
    → P x
each-of P [] x [] is = is
each-of P [] x (y ∷ after) (is, rest) = is
each-of P (r ∷ more) x after is = each-at P r more x after is

-- ---- next records

same-objects : (xs ys : Objects) → names_of xs ≡ names_of ys → initial_state xs ≡ initial_state ys → xs ≡ ys
same-objects [] [] names values = refl
same-objects [] (y ∷ ys) names values = absurd cc
same-objects (x ∷ xs) [] names values = absurd cc
same-objects ((a, v) ∷ xs) ((b, w) ∷ ys) names values =
    let first : a ≡ b = cc in
    let value : v ≡ w = cc in
    let names_after : names_of xs ≡ names_of ys = cc in
    let values_after : initial_state xs ≡ initial_state ys = cc in
    let rest : xs ≡ ys = same-objects xs ys names_after values_after in
    cc

begins-next : (q x : RecordState) (end : EndState) → IsEnd q end → BeginsWith end x → IsNext q x
begins-next q x end is begins = record {
  site = begins.site ∙ is.site;
  names = ap (λ (o : Objects). names_of o) begins.objects ∙ is.objects.names;
  values = ap (λ (o : Objects). initial_state o) begins.objects ∙ is.objects.values;
  groups = begins.groups ∙ is.groups;
}

next-begins : (q x : RecordState) (end : EndState) → IsEnd q end → IsNext q x → BeginsWith end x
next-begins q x end is next = record {
  site = next.site ∙ sym is.site;
  objects = same-objects x.objects end.objects (next.names ∙ sym is.objects.names) (next.values ∙ sym is.objects.values);
  groups = next.groups ∙ sym is.groups;
}

differs-begins : (end : EndState) (x : RecordState) (row : ℕ) → DiffersAtRow end x row → BeginsWith end x → ⊥
differs-begins end x row (inl (site, at)) begins = site begins.site
differs-begins end x row (inr (site, inl (i, differ, at))) begins = differ.differ (ap (λ (o : Objects). take (i + 1) o) (sym begins.objects))
differs-begins end x row (inr (site, inr (objects, n, (k, j, differ, within, count), at))) begins =
    differ.differ (ap (take (k + 1)) (sym begins.groups))

-- ---- the audit with one record more

pub rounds_of-push : (done : List RecordState) (x : RecordState) → rounds_of (done ++ x ∷ []) ≡ rounds_of done + length x.rounds
rounds_of-push [] x = omega (arith)
rounds_of-push (r ∷ more) x = rounds-push r more x

pub places_of-push : (done : List RecordState) (x : RecordState) → places_of (done ++ x ∷ []) ≡ places_of done + length x.sets
places_of-push [] x = omega (arith)
places_of-push (r ∷ more) x = omega (arith, places_of-push more x)

pub last_end-push : (done : List RecordState) (x : RecordState) (e : EndState) → IsEnd x e → IsLastEnd (done ++ x ∷ []) (Some e)
last_end-push [] x e ends = (e, ends, refl)
last_end-push (r ∷ more) x e ends = (e, subst (λ (z : RecordState). IsEnd z e) (sym (last-push r more x)) ends, refl)

series-with_end : (done : List RecordState) (x : RecordState) (o : Option EndState) → AreSeries done → IsLastEnd done o
    → ((end : EndState) → o ≡ Some end → BeginsWith end x) → AreSeries (done ++ x ∷ [])
series-with_end [] x o is last begins = tt
series-with_end (r ∷ more) x o is (e, ends, same) begins =
    series-push r more x is (begins-next (last_of r more) x e ends (begins e same))

valid-with_end : (done : List RecordState) (x : RecordState) (o : Option EndState) → AreValidSeries done → IsLastEnd done o
    → ((end : EndState) → o ≡ Some end → BeginsWith end x) → IsValid x → AreValidSeries (done ++ x ∷ [])
valid-with_end [] x o (is, valid) last begins also = (tt, also)
valid-with_end (r ∷ more) x o (is, valid) last begins also =
    (series-with_end (r ∷ more) x o is last begins, each-push IsValid r more x valid also)

-- the first record, or one that begins with what the one before ended with
module _ (done : List RecordState) (x : RecordState) (o : Option EndState) (last : IsLastEnd done o)
    (begins : (end : EndState) → o ≡ Some end → BeginsWith end x) where
  pub series-with : AreSeries done → AreSeries (done ++ x ∷ [])
  series-with is = series-with_end done x o is last begins

  pub valid-with : AreValidSeries done → IsValid x → AreValidSeries (done ++ x ∷ [])
  valid-with valid also = valid-with_end done x o valid last begins also

-- ---- the whole

pub not-series : (done : List RecordState) (x : RecordState) (after : List RecordState) (end : EndState) (row : ℕ)
    → IsLastEnd done (Some end) → DiffersAtRow end x row → AreSeries (done ++ x ∷ after) → ⊥
not-series [] x after end row last differs is = absurd cc
not-series (r ∷ more) x after end row (e, ends, same) differs is =
    let at_end : end ≡ e = cc in
    differs-begins e x row (subst (λ z. DiffersAtRow z x row) at_end differs)
    (next-begins (last_of r more) x e ends (next-of r more x after is))

pub not-certified : (done : List RecordState) (x : RecordState) (after : List RecordState) → (IsValid x → ⊥)
    → AreSeries (done ++ x ∷ after) → OfAll IsRecord (done ++ x ∷ after) → IsWholeCertified (done ++ x ∷ after) → ⊥
not-certified [] x after invalid is own certified =
    invalid (each-of IsValid [] x after (certified_series_are_valid x after is own certified))
not-certified (r ∷ more) x after invalid is own certified =
    invalid (each-of IsValid (r ∷ more) x after (certified_series_are_valid r (more ++ x ∷ after) is own certified))

-- with one record more there is one
pub not-empty : (records : List RecordState) (x : RecordState) → records ++ x ∷ [] ≡ [] → ⊥
not-empty [] x e = absurd cc
not-empty (r ∷ records) x e = absurd cc

pub whole-certified : (records : List RecordState) → (records ≡ [] → ⊥) → AreValidSeries records → IsWholeCertified records
whole-certified [] some valid = some refl
whole-certified (r ∷ more) some (is, valid) = valid_series_are_certified r more is valid

pub whole-fewest : (records : List RecordState) → IsWholeCertified records → NoFewerRoundsOfWhole records (rounds_of records)
whole-fewest [] certified = certified
whole-fewest (r ∷ more) certified = certified_series_have_the_fewest_rounds r more certified

-- ---- a record that is not next

pub judged-not-next : (done : List RecordState) (x : RecordState) (o : Option EndState) (row : ℕ) → IsLastEnd done o
    → IfSome o (λ end. DiffersAtRow end x row) → (o ≡ None → ⊥)
    → (AreSeries (done ++ x ∷ []) → ⊥) × (end : EndState) × IsLastEnd done (Some end) × DiffersAtRow end x row
judged-not-next done x None row last differs some = absurd (some refl)
judged-not-next done x (Some end) row last differs some =
    (λ is. not-series done x [] end row last differs is, end, last, differs)

pub not-next : (done : List RecordState) (x : RecordState) (more : List RecordState) (o : Option EndState) (row : ℕ) → IsLastEnd done o
    → IfSome o (λ end. DiffersAtRow end x row) → (o ≡ None → ⊥) → AreSeries (done ++ x ∷ more) → ⊥
not-next done x more None row last differs some is = some refl
not-next done x more (Some end) row last differs some is = not-series done x more end row last differs is

-- ---- a verdict that is yes

pub fewest-yes : (v : SeriesVerdict) (P : ℕ → Type 0) → IfSeriesFewest v P → is_yes v ≡ true → (n : ℕ) × P n
fewest-yes (Fewest n) P is agrees = (n, is)
fewest-yes (No place row why) P is agrees = absurd cc

pub next-valid : (done : List RecordState) (x : RecordState) (v : SeriesVerdict) → IsSeriesVerdict done x v → is_yes v ≡ true → IsValid x
next-valid done x (Fewest n) (valid, is) agrees = each-of IsValid done x [] valid.1
next-valid done x (No place row why) is agrees = absurd cc
