-- The records of one site of stores that go on one from another.
use Rattle.ordup_audit.proofs.Common.{◌<◌, ◌∙◌, ◌∷◌, ◌≡◌, [], All, All-tail, ap, arith, History, history_of, initial_state, IsLegalHistory, IsValid}
use Rattle.ordup_audit.proofs.Common.{length, List, map, RecordState, refl, serial, sym, take, take_all, ℕ}
use Rattle.std.proofs.Common.{length-take, min}
use Rattle.std.proofs.lemmas.List.{get_or-take, take-take}
use Rattle.std.proofs.lemmas.List.Elements.{All-take}
use Rattle.std.specs.Prelude.{fold, slice_index_or}
use Rattle.ordup_objects.specs.Serial.{prefix_of}
use Rattle.ordup_objects.specs.Sets.{AreKnown, IsSet}
use Rattle.ordup_objects.specs.States.{after, is_legal}
use Rattle.ordup_primary.specs.Primaries.{HasFewestRounds, IsPrimary, PrimaryState}
use Rattle.ordup_series.specs.Audits.{OfAll}
use Rattle.ordup_series.specs.Series.{IsNext, IsSeries, OfEach}
use Rattle.ordup_record.specs.RecordsOf.{record_of}
use Rattle.ordup_record.specs.Successive.{AreSuccessive, GoesOn, HasSite, SuccessiveRecordsAreAValidSeries, SuccessiveRecordsAreNext, records_of}
use Rattle.ordup_record.proofs.RecordOfLemmas.{record-valid}

-- where all is decided the record has the whole log
whole_log : (p : PrimaryState) (s : ℕ) → IsPrimary p → p.acked ≡ length p.log.sets → history_of (record_of p s) ≡ p.log
whole_log p s is acked =
    let all : take p.decided p.log.sets ≡ p.log.sets = take_all p.decided p.log.sets (omega (arith, is.acked, acked)) in
    ap (λ sets. let h : History = record { start = initial_state p.setup.objects; sets = sets } in h) all
    ∙ ap (λ start. let h : History = record { start = start; sets = p.log.sets } in h) (sym is.start)

pub successive_records_are_next : SuccessiveRecordsAreNext
successive_records_are_next p q s is on = record {
  site = ap (λ (sites : List (List ℕ × ℕ)). (slice_index_or sites s ([], 0)).0) on.sites;
  names = on.objects;
  values = on.values ∙ ap (λ (h : History). serial h (length h.sets)) (sym (whole_log p s is on.acked));
  groups = on.groups;
}

-- the first updates of a legal history are legal
prefix-legal : (h : History) (j : ℕ) → IsLegalHistory h → IsLegalHistory (prefix_of h j)
prefix-legal h j is = record {
  start = is.start;
  sets = All-take IsSet j h.sets is.sets;
  known = All-take (AreKnown (length h.start)) j h.sets is.known;
  legal = λ k lt.
      let short : k < j = omega (arith, lt, length-take j h.sets) in
      let there : k < length h.sets = omega (arith, lt, length-take j h.sets) in
      rw (get_or-take j h.sets k [] short, take-take k j h.sets (omega (arith, short))) (is.legal k there);
}

valid_at : (s : ℕ) (p : PrimaryState) → HasSite s p → IsValid (record_of p s)
valid_at s p (is, fewest, there) =
    let legal : IsLegalHistory (history_of (record_of p s)) = rw is.start at (prefix-legal p.log p.decided is.legal) in
    record-valid p s is there fewest legal

series_of_stores : (s : ℕ) (p : PrimaryState) (more : List PrimaryState) → All (HasSite s) (p ∷ more) → AreSuccessive p more
    → IsSeries (record_of p s) (records_of s more) × OfEach IsValid (record_of p s) (records_of s more)
series_of_stores s p [] has on = (tt, valid_at s p (has 0 p (omega arith)))
series_of_stores s p (q ∷ more) has (first, rest) =
    let here = has 0 p (omega arith) in
    let (series, valid) = series_of_stores s q more (All-tail (HasSite s) p (q ∷ more) has) rest in
    ((successive_records_are_next p q s here.0 first, series), (valid_at s p here, valid))

pub successive_records_are_a_valid_series : SuccessiveRecordsAreAValidSeries
successive_records_are_a_valid_series s p more has on = series_of_stores s p more has on
