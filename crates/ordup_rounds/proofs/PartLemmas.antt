-- What is certified of two epochs together is certified of each, where its rounds and windows are within it.
use Rattle.std.proofs.Common.{◌≡◌, ℕ, zero, suc, ◌+◌, ◌-◌, ◌<◌, ◌≤◌, ◌==◌, Bool, true, false, Some, None}
use Rattle.std.proofs.Common.{List, [], ◌∷◌, ◌++◌, length, map, max, inl, inr, arith, refl, sym, subst, ◌∙◌}
use Rattle.std.specs.Prelude.{◌||◌, if◌then◌else◌, unwrap_or, option_map, All, get_or}
use Rattle.std.specs.List.{AllAdjacentBelow}
use Rattle.std.proofs.lemmas.Bool.{ne_eqb}
use Rattle.std.proofs.lemmas.List.{length-append, length-map, get_or_append_left, get_or-append-add, get_or-map}
use Rattle.std.proofs.lemmas.List.Elements.{All-head, All-tail}
use Rattle.std.proofs.lemmas.List.Folds.{list_any-append}
use Rattle.ordup_rounds.specs.declared.window.Window.{Window}
use Rattle.ordup_rounds.specs.Schedules.{IsLimitTest, Schedule, IsSchedule, StaysWithin, base, awaited_place, round_count}
use Rattle.ordup_rounds.specs.Windows.{IsWindow, AreDisjointWindows}
use Rattle.ordup_rounds.specs.Rounds.{AreRoundPlaces, full_rounds}
use Rattle.ordup_rounds.specs.Fewest.{IsCertificate}
use Rattle.ordup_rounds.specs.Joins.{CertificatesPart, JoinsTests, joined_reports, moved_places, moved_windows}
use Rattle.ordup_rounds.proofs.JoinLemmas.{has_place-moved, keeps-first, keeps-next, later_part, places-moved, reports-after, reports-before}
use Rattle.ordup_rounds.proofs.PlaceLemmas.{has_place, round_count-places, round_places_are_a_schedule}
use Rattle.ordup_rounds.proofs.WindowLemmas.{no_fewer_rounds_than_windows}

-- ---- parts of lists

pub All-left : {X : Type 0} (P : X → Type 0) (xs ys : List X) → All P (xs ++ ys) → All P xs
All-left P xs ys all i d there = subst P (get_or_append_left xs ys d i there) (all i d (omega (arith, length-append xs ys)))

pub All-right : {X : Type 0} (P : X → Type 0) (xs ys : List X) → All P (xs ++ ys) → All P ys
All-right P xs ys all i d there = subst P (get_or-append-add xs ys i d) (all (length xs + i) d (omega (arith, length-append xs ys)))

pub All-of_map : {X Y : Type 0} (P : Y → Type 0) (f : X → Y) (xs : List X) → All P (map f xs) → All (λ x. P (f x)) xs
All-of_map P f xs all i d there = subst P (get_or-map f xs i d (f d) there) (all i (f d) (omega (arith, length-map xs f)))

adjacent-left : {X : Type 0} (R : X → X → Type 0) (xs ys : List X) → AllAdjacentBelow R (xs ++ ys) (length (xs ++ ys))
    → AllAdjacentBelow R xs (length xs)
adjacent-left R xs ys all k d there =
    let pair = all k d (omega (arith, length-append xs ys)) in
    rw (get_or_append_left xs ys d k (omega arith), get_or_append_left xs ys d (k + 1) there) at pair

adjacent-right : {X : Type 0} (R : X → X → Type 0) (xs ys : List X) → AllAdjacentBelow R (xs ++ ys) (length (xs ++ ys))
    → AllAdjacentBelow R ys (length ys)
adjacent-right R xs ys all k d there =
    let step : length xs + k + 1 ≡ length xs + (k + 1) = omega arith in
    let pair = all (length xs + k) d (omega (arith, length-append xs ys)) in
    rw (step, get_or-append-add xs ys k d, get_or-append-add xs ys (k + 1) d) at pair

adjacent-of_map : {X : Type 0} (R S : X → X → Type 0) (f : X → X) → ((x y : X) → R (f x) (f y) → S x y) → (xs : List X)
    → AllAdjacentBelow R (map f xs) (length (map f xs)) → AllAdjacentBelow S xs (length xs)
adjacent-of_map R S f of xs all k d there =
    let pair = all k (f d) (omega (arith, length-map xs f)) in
    of _ _ (rw (get_or-map f xs k d (f d) (omega arith), get_or-map f xs (k + 1) d (f d) there) at pair)

-- ---- places of one epoch alone

-- no place of the other epoch is this one
has_place-none : (k : ℕ) (xs : List ℕ) (Past : ℕ → Type 0) → ((x : ℕ) → Past x → (x == k) ≡ false) → All Past xs → has_place k xs ≡ false
has_place-none k [] Past other all = refl
has_place-none k (x ∷ xs) Past other all =
    rw (other x (All-head Past x xs all), has_place-none k xs Past other (All-tail Past x xs all)) refl

moved-back : (n k : ℕ) (has : Bool) → option_map (λ m. m - n) (if has then Some (n + k) else None) ≡ (if has then Some k else None)
moved-back n k true = let here : n + k - n ≡ k = omega arith in rw here refl
moved-back n k false = refl

or-none : (a : Bool) → (a || false) ≡ a
or-none true = refl
or-none false = refl

module _ (n decided : ℕ) (within first next : ℕ → ℕ → Bool) (f g : ℕ → ℕ) (test : IsLimitTest within) (first_test : IsLimitTest first)
    (next_test : IsLimitTest next) (joins : JoinsTests n within first next) (rounds more : List ℕ) (windows later : List Window)
    (places : AreRoundPlaces n rounds) (next_places : AreRoundPlaces decided more) (ends : All (λ (w : Window). w.to ≤ n) windows)
    (next_ends : All (λ (w : Window). w.to ≤ decided) later)
    (whole : IsCertificate within (joined_reports n f g) (n + decided) (rounds ++ moved_places n more) (windows ++ moved_windows n later))
  where
    abbrev reports : ℕ → ℕ
    reports = joined_reports n f g

    abbrev schedule : Schedule
    schedule = full_rounds (rounds ++ moved_places n more)

    is_schedule : IsSchedule (n + decided) schedule
    is_schedule = (round_places_are_a_schedule (n + decided) (rounds ++ moved_places n more) whole.places).0

    moved_past : All (λ k. (n < k) × (k ≤ n + decided)) (moved_places n more)
    moved_past = places-moved n decided more next_places.each

    -- up to the end of the first epoch the rounds are its own
    schedule-first : (k : ℕ) → k ≤ n → schedule k ≡ full_rounds rounds k
    schedule-first k le =
        let none : has_place k (moved_places n more) ≡ false =
        has_place-none k (moved_places n more) (λ x. (n < x) × (x ≤ n + decided)) (λ x past. ne_eqb x k (omega (arith, past.0))) moved_past in
        rw (list_any-append (λ p. p == k) rounds (moved_places n more), none, or-none (has_place k rounds)) refl

    -- and from there on those of the next one
    schedule-next : (k : ℕ) → 0 < k → later_part n schedule k ≡ full_rounds more k
    schedule-next k some =
        let none : has_place (n + k) rounds ≡ false =
        has_place-none (n + k) rounds (λ x. (0 < x) × (x ≤ n)) (λ x upto. ne_eqb x (n + k) (omega (arith, upto.1))) places.each in
        rw (list_any-append (λ p. p == n + k) rounds (moved_places n more), none, has_place-moved n k more) (moved-back n k (has_place k more))

    awaited-first : (k : ℕ) → k ≤ n → awaited_place schedule k ≡ awaited_place (full_rounds rounds) k
    awaited-first zero le = refl
    awaited-first (suc k) le = rw (awaited-first k (omega arith), schedule-first (suc k) le) refl

    awaited-next : (k : ℕ) → awaited_place (later_part n schedule) k ≡ awaited_place (full_rounds more) k
    awaited-next zero = refl
    awaited-next (suc k) = rw (awaited-next k, schedule-next (suc k) (omega arith)) refl

    keeps-own_first : StaysWithin first f n (full_rounds rounds)
    keeps-own_first k some le =
        let kept = keeps-first n decided within first next f g test joins schedule is_schedule whole.keeps k some le in
        rw (awaited-first k le) at kept

    keeps-own_next : StaysWithin next g decided (full_rounds more)
    keeps-own_next k some le =
        let kept = keeps-next n decided within first next f g test joins schedule is_schedule whole.keeps k some le in
        rw (awaited-next k) at kept

    window-first : (w : Window) → (w.to ≤ n) × IsWindow within reports (n + decided) w → IsWindow first f n w
    window-first w (le, is) = record {
      forward = is.forward;
      last = le;
      over = sym (joins.before w.from w.to le) ∙ is.over;
      unreported = omega (arith, reports-before n f g w.to le, is.unreported);
    }

    window-next : (w : Window) → (w.to ≤ decided) × IsWindow within reports (n + decided) (record { from = n + w.from; to = n + w.to })
        → IsWindow next g decided w
    window-next w (le, is) =
        let forward : w.from < w.to = omega (arith, is.forward) in
        record {
          forward = forward;
          last = le;
          over = sym (joins.after w.from w.to) ∙ is.over;
          unreported = omega (arith, reports-after n f g w.to (omega (arith, forward)), is.unreported);
        }

    disjoint-first : AreDisjointWindows first f n windows
    disjoint-first = record {
      each = λ i d there. window-first _ (
        ends i d there,
        All-left (IsWindow within reports (n + decided)) windows (moved_windows n later) whole.disjoint.each i d there,
      );
      apart = adjacent-left (λ v w. v.to ≤ w.from) windows (moved_windows n later) whole.disjoint.apart;
    }

    disjoint-next : AreDisjointWindows next g decided later
    disjoint-next = record {
      each = λ i d there. window-next _ (
        next_ends i d there,
        All-of_map (IsWindow within reports (n + decided)) (λ w. record { from = n + w.from; to = n + w.to }) later
            (All-right (IsWindow within reports (n + decided)) windows (moved_windows n later) whole.disjoint.each) i d there,
      );
      apart = adjacent-of_map (λ v w. v.to ≤ w.from) (λ v w. v.to ≤ w.from) (λ w. record { from = n + w.from; to = n + w.to })
          (λ v w le. omega (arith, le)) later (adjacent-right (λ v w. v.to ≤ w.from) windows (moved_windows n later) whole.disjoint.apart);
    }

    -- neither epoch has more windows than rounds, so each has as many
    few-first : length windows ≤ length rounds
    few-first =
        omega (
          arith,
          no_fewer_rounds_than_windows first f n first_test (full_rounds rounds) (round_places_are_a_schedule n rounds places).0
              keeps-own_first windows disjoint-first,
          round_count-places n rounds places,
        )

    few-next : length later ≤ length more
    few-next =
        omega (
          arith,
          no_fewer_rounds_than_windows next g decided next_test (full_rounds more) (round_places_are_a_schedule decided more next_places).0
              keeps-own_next later disjoint-next,
          round_count-places decided more next_places,
        )

    together : length windows + length later ≡ length rounds + length more
    together =
        omega (
          arith,
          whole.count,
          length-append windows (moved_windows n later),
          length-append rounds (moved_places n more),
          length-map {B = Window} later (λ w. record { from = n + w.from; to = n + w.to }),
          length-map more (λ k. n + k),
        )

    certificate-first : IsCertificate first f n rounds windows
    certificate-first = record {
      places = places;
      keeps = keeps-own_first;
      disjoint = disjoint-first;
      count = omega (arith, few-first, few-next, together);
    }

    certificate-next : IsCertificate next g decided more later
    certificate-next = record {
      places = next_places;
      keeps = keeps-own_next;
      disjoint = disjoint-next;
      count = omega (arith, few-first, few-next, together);
    }

pub certificates_part : CertificatesPart
certificates_part n decided within first next f g test first_test next_test joins rounds more windows later places next_places ends next_ends
    whole = (
      certificate-first n decided within first next f g test first_test next_test joins rounds more windows later places next_places ends
          next_ends whole,
      certificate-next n decided within first next f g test first_test next_test joins rounds more windows later places next_places ends
          next_ends whole,
    )
