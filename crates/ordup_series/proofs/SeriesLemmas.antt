-- The whole of a series is certified as each record is, one join after another.
use Rattle.std.proofs.Common.{◌≡◌, ◌+◌, ◌≤◌, List, [], ◌∷◌, length, arith, refl, sym, ap, subst, ◌∙◌}
use Rattle.std.specs.Prelude.{All}
use Rattle.std.proofs.lemmas.List.{get_or_append_left, get_or-append-add, length-append, length-map}
use Rattle.std.proofs.lemmas.List.Elements.{All-append, All-map, All-weaker}
use Rattle.ordup_objects.specs.Joins.{BeginsAtEnd, joined}
use Rattle.ordup_objects.specs.Serial.{History, IsLegalHistory}
use Rattle.ordup_objects.specs.Sets.{AreKnown, IsSet}
use Rattle.ordup_objects.specs.States.{IsState}
use Rattle.ordup_objects.specs.Tables.{initial_state}
use Rattle.ordup_objects.proofs.JoinLemmas.{legal_histories_join, serial_results_join}
use Rattle.ordup_objects.proofs.SerialLemmas.{length-serial, serial-longer}
use Rattle.ordup_log.specs.Groups.{GroupList}
use Rattle.ordup_limits.specs.Limits.{within}
use Rattle.ordup_limits.proofs.JoinLemmas.{limits_by_place_are_tests, tests_join}
use Rattle.ordup_rounds.specs.Fewest.{IsCertificate}
use Rattle.ordup_rounds.specs.Joins.{moved_places, moved_windows}
use Rattle.ordup_rounds.specs.Rounds.{AreRoundPlaces}
use Rattle.ordup_rounds.specs.Schedules.{IsLimitTest}
use Rattle.ordup_rounds.specs.declared.window.Window.{Window}
use Rattle.ordup_rounds.proofs.JoinLemmas.{certificates_join, places-joined}
use Rattle.ordup_rounds.proofs.PartLemmas.{All-left, All-right, certificates_part}
use Rattle.ordup_rounds.proofs.RoundLemmas.{certified_rounds_are_fewest}
use Rattle.ordup_audit.specs.Records.{RecordState, IsRecord}
use Rattle.ordup_series.specs.Series.{CertifiedSeriesAreValid, CertifiedSeriesHaveTheFewestRounds, IsCertified, OfEach}
use Rattle.ordup_series.specs.Series.{SeriesHaveTheRoundsOfTheirRecords, ValidSeriesAreCertified, Whole}
use Rattle.ordup_series.specs.Series.{is_within, joined_wholes, length_of, series_of, whole_of}

-- the whole begins as its first record does
begins-as_first : (r : RecordState) (more : List RecordState) → (series_of r more).history.start ≡ initial_state r.objects
begins-as_first r [] = refl
begins-as_first r (next ∷ more) = refl

groups-of_first : (r : RecordState) (more : List RecordState) → (series_of r more).groups ≡ r.groups
groups-of_first r [] = refl
groups-of_first r (next ∷ more) = refl

is_test : (w : Whole) → IsLimitTest (is_within w)
is_test w = limits_by_place_are_tests w.history w.groups w.limits_at

-- two wholes are certified together where each is, and the next one begins with the values in which the first one ends
certified-joined : (w next : Whole) → BeginsAtEnd w.history next.history → next.groups ≡ w.groups → IsCertified w → IsCertified next
    → IsCertified (joined_wholes w next)
certified-joined w next begins groups one two =
    let n = length_of w in
    let test = is_test (joined_wholes w next) in
    let joins = tests_join w.history next.history w.groups w.limits_at next.limits_at begins in
    let later : IsCertificate (λ a b. within next.history w.groups (next.limits_at b) a b) next.reported_at (length_of next) next.rounds
    next.windows =
    subst (λ (g : GroupList). IsCertificate (λ a b. within next.history g (next.limits_at b) a b) next.reported_at (length_of next)
    next.rounds next.windows) groups two.certificate in
    record {
      legal = legal_histories_join w.history next.history one.legal two.legal begins;
      certificate =
          rw (length-append w.history.sets next.history.sets)
          (certificates_join n (length_of next) (is_within (joined_wholes w next)) (is_within w)
          (λ a b. within next.history w.groups (next.limits_at b) a b) w.reported_at next.reported_at test joins w.rounds next.rounds
          w.windows next.windows one.certificate later);
    }

pub valid_series_are_certified : ValidSeriesAreCertified
valid_series_are_certified r [] is valid = record { legal = valid.legal; certificate = valid.certificate }
valid_series_are_certified r (next ∷ more) (is, rest) (valid, others) =
    certified-joined (whole_of r) (series_of next more) (begins-as_first next more ∙ is.values) (groups-of_first next more ∙ is.groups)
    (record { legal = valid.legal; certificate = valid.certificate }) (valid_series_are_certified next more rest others)

pub series_have_the_rounds_of_their_records : SeriesHaveTheRoundsOfTheirRecords
series_have_the_rounds_of_their_records r [] = refl
series_have_the_rounds_of_their_records r (next ∷ more) =
    let w = series_of next more in
    omega (
      arith,
      length-append r.rounds (moved_places (length r.sets) w.rounds),
      length-map w.rounds (λ k. length r.sets + k),
      series_have_the_rounds_of_their_records next more,
    )

pub certified_series_have_the_fewest_rounds : CertifiedSeriesHaveTheFewestRounds
certified_series_have_the_fewest_rounds r more certified p is keeps =
    let w = series_of r more in
    rw (sym (series_have_the_rounds_of_their_records r more))
    (certified_rounds_are_fewest (is_within w) w.reported_at (length_of w) (is_test w) w.rounds w.windows certified.certificate p is keeps)

-- ---- the records of a certified series

legal-first : (h next : History) → IsLegalHistory (joined h next) → IsLegalHistory h
legal-first h next whole = record {
  start = whole.start;
  sets = All-left IsSet h.sets next.sets whole.sets;
  known = All-left (AreKnown (length h.start)) h.sets next.sets whole.known;
  legal = λ k lt.
      let legal = whole.legal k (omega (arith, length-append h.sets next.sets)) in
      rw (get_or_append_left h.sets next.sets [] k lt, serial-longer h next.sets k (omega arith)) at legal;
}

legal-next : (h next : History) → BeginsAtEnd h next → IsState next.start → IsLegalHistory (joined h next) → IsLegalHistory next
legal-next h next begins state whole =
    let n = length h.sets in
    let objects : length next.start ≡ length h.start = ap length begins ∙ length-serial h n (omega arith) in
    record {
      start = state;
      sets = All-right IsSet h.sets next.sets whole.sets;
      known = rw objects (All-right (AreKnown (length h.start)) h.sets next.sets whole.known);
      legal = λ k lt.
          let legal = whole.legal (n + k) (omega (arith, length-append h.sets next.sets)) in
          rw (get_or-append-add h.sets next.sets k [], serial_results_join h next k begins) at legal;
    }

-- rounds and windows stand at places of the whole
record AreWithin (w : Whole) : Type 0 where
  places : AreRoundPlaces (length_of w) w.rounds
  ends : All (λ (v : Window). v.to ≤ length_of w) w.windows

within-joined : (w next : Whole) → AreWithin w → AreWithin next → AreWithin (joined_wholes w next)
within-joined w next one two =
    let n = length_of w in
    let more = length_of next in
    let both = length-append w.history.sets next.history.sets in
    record {
      places = rw both (places-joined n more w.rounds next.rounds one.places two.places);
      ends = rw both
          (All-append (λ (v : Window). v.to ≤ n + more) w.windows (moved_windows n next.windows)
          (All-weaker (λ (v : Window). v.to ≤ n) (λ (v : Window). v.to ≤ n + more) (λ v le. omega (arith, le)) w.windows one.ends)
          (All-map (λ (v : Window). v.to ≤ n + more) (λ v. record { from = n + v.from; to = n + v.to }) next.windows
          (All-weaker (λ (v : Window). v.to ≤ more) (λ (v : Window). n + v.to ≤ n + more) (λ v le. omega (arith, le)) next.windows two.ends)));
    }

within-record : (r : RecordState) → IsRecord r → AreWithin (whole_of r)
within-record r is = record { places = is.rounds; ends = λ i d there. (is.windows i d there).1 }

within-series : (r : RecordState) (more : List RecordState) → OfEach IsRecord r more → AreWithin (series_of r more)
within-series r [] is = within-record r is
within-series r (next ∷ more) (is, others) = within-joined (whole_of r) (series_of next more) (within-record r is) (within-series next more others)

first_of : (P : RecordState → Type 0) (r : RecordState) (more : List RecordState) → OfEach P r more → P r
first_of P r [] is = is
first_of P r (next ∷ more) is = is.0

pub certified_series_are_valid : CertifiedSeriesAreValid
certified_series_are_valid r [] is own certified = record { legal = certified.legal; certificate = certified.certificate }
certified_series_are_valid r (next ∷ more) (is, rest) (own, others) certified =
    let w = whole_of r in
    let v = series_of next more in
    let n = length_of w in
    let begins : BeginsAtEnd w.history v.history = begins-as_first next more ∙ is.values in
    let groups : v.groups ≡ w.groups = groups-of_first next more ∙ is.groups in
    let here = within-record r own in
    let there = within-series next more others in
    let whole : IsCertificate (is_within (joined_wholes w v)) (joined_wholes w v).reported_at (n + length_of v) (joined_wholes w v).rounds
    (joined_wholes w v).windows =
    rw (length-append w.history.sets v.history.sets) at certified.certificate in
    let parts =
    certificates_part n (length_of v) (is_within (joined_wholes w v)) (is_within w) (λ a b. within v.history w.groups (v.limits_at b) a b)
    w.reported_at v.reported_at (is_test (joined_wholes w v)) (is_test w) (limits_by_place_are_tests v.history w.groups v.limits_at)
    (tests_join w.history v.history w.groups w.limits_at v.limits_at begins) w.rounds v.rounds w.windows v.windows here.places there.places
    here.ends there.ends whole in
    let later : IsCertificate (is_within v) v.reported_at (length_of v) v.rounds v.windows =
    subst (λ (g : GroupList). IsCertificate (λ a b. within v.history g (v.limits_at b) a b) v.reported_at (length_of v) v.rounds v.windows)
    (sym groups) parts.1 in
    let state : IsState v.history.start =
    subst IsState (sym (begins-as_first next more)) (first_of IsRecord next more others).objects.values in (
      record { legal = legal-first w.history v.history certified.legal; certificate = parts.0 },
      certified_series_are_valid next more rest others
          (record { legal = legal-next w.history v.history begins state certified.legal; certificate = later }),
    )
