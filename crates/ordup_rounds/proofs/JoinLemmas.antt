-- What is shown of two epochs is shown of both, one after the other.
use Rattle.std.proofs.Common.{◌≡◌, ℕ, zero, suc, ◌+◌, ◌-◌, ◌<◌, ◌≤◌, ◌==◌, Bool, true, false, Option, Some, None}
use Rattle.std.proofs.Common.{cond, List, [], ◌∷◌, ◌++◌, length, map, max, inl, inr, arith, refl, sym, ◌∙◌}
use Rattle.std.specs.Prelude.{◌||◌, if◌then◌else◌, nat_le, is_some, unwrap_or, option_map, All, get_or}
use Rattle.std.specs.List.{AllAdjacentBelow}
use Rattle.std.specs.List.Sorted.{IsStrictlyIncreasing}
use Rattle.std.proofs.lemmas.Bool.{cases_lt, cases_order, le-leb, lt-leb, eq-eqb, ne_eqb}
use Rattle.std.proofs.lemmas.List.{length-append, length-map}
use Rattle.std.proofs.lemmas.List.Elements.{All-tail, All-append, All-map, All-weaker}
use Rattle.std.proofs.lemmas.List.Folds.{list_any-append}
use Rattle.std.proofs.lemmas.List.Kept.{AllPairs-from_increasing}
use Rattle.std.proofs.lemmas.List.Sums.{sum_by-append, sum_by-cons}
use Rattle.ordup_rounds.specs.declared.window.Window.{Window}
use Rattle.ordup_rounds.specs.Schedules.{IsLimitTest, Schedule, IsSchedule, StaysWithin, base, round_count, awaited_place}
use Rattle.ordup_rounds.specs.Windows.{IsWindow, AreDisjointWindows}
use Rattle.ordup_rounds.specs.Rounds.{AreRoundPlaces, count_upto, full_rounds}
use Rattle.ordup_rounds.specs.Fewest.{IsCertificate}
use Rattle.ordup_rounds.specs.Joins.{JoinsTests, joined_reports, moved_places, moved_windows, CertificatesJoin, FewestRoundsJoin}
use Rattle.ordup_rounds.proofs.PlaceLemmas.{has_place, count_upto-all, count_upto-none, round_count-places, round_places_are_a_schedule}
use Rattle.ordup_rounds.proofs.ScheduleLemmas.{awaited_place-le}
use Rattle.ordup_rounds.proofs.WindowLemmas.{no_fewer_rounds_than_windows}

-- ---- reports

pub reports-before : (n : ℕ) (f g : ℕ → ℕ) (k : ℕ) → k ≤ n → joined_reports n f g k ≡ f k
reports-before n f g k le = rw (le-leb k n le) refl

pub reports-after : (n : ℕ) (f g : ℕ → ℕ) (k : ℕ) → 0 < k → joined_reports n f g (n + k) ≡ n + g k
reports-after n f g k some = let here : n + k - n ≡ k = omega arith in rw (lt-leb (n + k) n (omega arith), here) refl

-- ---- places that are moved

eqb-moved : (n x k : ℕ) → (n + x == n + k) ≡ (x == k)
eqb-moved n x k = elim (cases_order x k) [
  | inl same ↦ rw (eq-eqb x k same, eq-eqb (n + x) (n + k) (omega arith)) refl
  | inr (inl less) ↦ rw (ne_eqb x k (omega arith), ne_eqb (n + x) (n + k) (omega arith)) refl
  | inr (inr more) ↦ rw (ne_eqb x k (omega arith), ne_eqb (n + x) (n + k) (omega arith)) refl
]

pub has_place-moved : (n k : ℕ) (xs : List ℕ) → has_place (n + k) (moved_places n xs) ≡ has_place k xs
has_place-moved n k [] = refl
has_place-moved n k (x ∷ xs) = rw (eqb-moved n x k, has_place-moved n k xs) refl

leb-moved : (n x e : ℕ) → nat_le (n + x) (n + e) ≡ nat_le x e
leb-moved n x e = elim (cases_lt e x) [
  | inl past ↦ rw (lt-leb x e past, lt-leb (n + x) (n + e) (omega arith)) refl
  | inr upto ↦ rw (le-leb x e upto, le-leb (n + x) (n + e) (omega arith)) refl
]

count_upto-moved : (n e : ℕ) (xs : List ℕ) → count_upto (n + e) (moved_places n xs) ≡ count_upto e xs
count_upto-moved n e [] = refl
count_upto-moved n e (x ∷ xs) =
    sum_by-cons (λ k. cond (nat_le k (n + e)) 1 0) (n + x) (moved_places n xs)
    ∙ rw (leb-moved n x e, count_upto-moved n e xs) (sym (sum_by-cons (λ k. cond (nat_le k e) 1 0) x xs))

pub places-moved : (n d : ℕ) (xs : List ℕ) → All (λ k. (0 < k) × (k ≤ d)) xs → All (λ k. (n < k) × (k ≤ n + d)) (moved_places n xs)
places-moved n d xs each =
    All-map (λ k. (n < k) × (k ≤ n + d)) (λ k. n + k) xs
    (All-weaker (λ k. (0 < k) × (k ≤ d)) (λ k. (n < n + k) × (n + k ≤ n + d)) (λ k is. (omega (arith, is.0), omega (arith, is.1))) xs each)

-- ---- neighbours in a list that is joined

-- where what P says of one and Q of the next suffices for both
adjacent-append : {X : Type 0} (R : X → X → Type 0) (P Q : X → Type 0) → ((x y : X) → P x → Q y → R x y) → (xs ys : List X)
    → AllAdjacentBelow R xs (length xs) → All P xs → AllAdjacentBelow R ys (length ys) → All Q ys
    → AllAdjacentBelow R (xs ++ ys) (length (xs ++ ys))
adjacent-append R P Q joins [] ys before ps after qs k d there = after k d there
adjacent-append R P Q joins (x ∷ []) ys before ps after qs zero d there = joins x (get_or ys 0 d) (ps 0 x (omega arith)) (qs 0 d (omega arith))
adjacent-append R P Q joins (x ∷ []) ys before ps after qs (suc k) d there =
    let step : suc k + 1 ≡ suc (k + 1) = omega arith in rw step (after k d (omega arith))
adjacent-append R P Q joins (x ∷ y ∷ xs) ys before ps after qs zero d there = before 0 d (omega arith)
adjacent-append R P Q joins (x ∷ y ∷ xs) ys before ps after qs (suc k) d there =
    let step : suc k + 1 ≡ suc (k + 1) = omega arith in
    let rest : AllAdjacentBelow R (y ∷ xs) (length (y ∷ xs)) =
    λ i e lt. (
    let next : suc i + 1 ≡ suc (i + 1) = omega arith in
    let pair : R (get_or (y ∷ xs) i e) (get_or (x ∷ y ∷ xs) (suc i + 1) e) = before (suc i) e (omega arith) in
    rw next at pair) in
    rw step (adjacent-append R P Q joins (y ∷ xs) ys rest (All-tail P x (y ∷ xs) ps) after qs k d (omega arith))

map-adjacent : {X : Type 0} (R S : X → X → Type 0) (f : X → X) → ((x y : X) → R x y → S (f x) (f y)) → (xs : List X)
    → AllAdjacentBelow R xs (length xs) → AllAdjacentBelow S (map f xs) (length (map f xs))
map-adjacent R S f keeps [] all k d there = absurd (omega arith)
map-adjacent R S f keeps (x ∷ []) all k d there = absurd (omega arith)
map-adjacent R S f keeps (x ∷ y ∷ xs) all zero d there = keeps x y (all 0 x (omega arith))
map-adjacent R S f keeps (x ∷ y ∷ xs) all (suc k) d there =
    let step : suc k + 1 ≡ suc (k + 1) = omega arith in
    let rest : AllAdjacentBelow R (y ∷ xs) (length (y ∷ xs)) =
    λ i e lt. (
    let next : suc i + 1 ≡ suc (i + 1) = omega arith in
    let pair : R (get_or (y ∷ xs) i e) (get_or (x ∷ y ∷ xs) (suc i + 1) e) = all (suc i) e (omega arith) in
    rw next at pair) in
    rw step (map-adjacent R S f keeps (y ∷ xs) rest k d (omega arith))

adjacent-ascending : (xs : List ℕ) → IsStrictlyIncreasing xs → AllAdjacentBelow (λ x y. x < y) xs (length xs)
adjacent-ascending xs are k d there = AllPairs-from_increasing xs are k (k + 1) d (omega arith) there

-- ---- places of both epochs

upto-join : (n : ℕ) (rounds : List ℕ) → AreRoundPlaces n rounds → All (λ k. k ≤ n) rounds
upto-join n rounds places = All-weaker (λ k. (0 < k) × (k ≤ n)) (λ k. k ≤ n) (λ k is. is.1) rounds places.each

after-join : (n decided : ℕ) (more : List ℕ) → AreRoundPlaces decided more → All (λ k. (n < k) × (k ≤ n + decided)) (moved_places n more)
after-join n decided more places = places-moved n decided more places.each

pub places-joined : (n decided : ℕ) (rounds more : List ℕ) → AreRoundPlaces n rounds → AreRoundPlaces decided more
    → AreRoundPlaces (n + decided) (rounds ++ moved_places n more)
places-joined n decided rounds more one two =
    let after = after-join n decided more two in
    let ascending : AllAdjacentBelow (λ x y. x < y) (rounds ++ moved_places n more) (length (rounds ++ moved_places n more)) =
    adjacent-append (λ x y. x < y) (λ k. k ≤ n) (λ k. n < k) (λ x y le lt. omega arith) rounds (moved_places n more)
    (adjacent-ascending rounds one.ascending) (upto-join n rounds one)
    (map-adjacent (λ x y. x < y) (λ x y. x < y) (λ k. n + k) (λ x y lt. omega arith) more (adjacent-ascending more two.ascending))
    (All-weaker (λ k. (n < k) × (k ≤ n + decided)) (λ k. n < k) (λ k is. is.0) (moved_places n more) after) in
    record {
      ascending = λ k there. ascending k 0 there;
      each = All-append (λ k. (0 < k) × (k ≤ n + decided)) rounds (moved_places n more)
          (All-weaker (λ k. (0 < k) × (k ≤ n)) (λ k. (0 < k) × (k ≤ n + decided)) (λ k is. (is.0, omega (arith, is.1))) rounds one.each)
          (All-weaker (λ k. (n < k) × (k ≤ n + decided)) (λ k. (0 < k) × (k ≤ n + decided)) (λ k is. (omega (arith, is.0), is.1))
          (moved_places n more) after);
    }

-- ---- what rounds wait for

awaited-more : (p q : Schedule) (k : ℕ) → ((i : ℕ) → unwrap_or (p i) 0 ≤ unwrap_or (q i) 0) → awaited_place p k ≤ awaited_place q k
awaited-more p q zero more = omega arith
awaited-more p q (suc k) more = omega (arith, awaited-more p q k more, more (suc k))

full-more : (a b : Bool) (k : ℕ) → unwrap_or (if a then Some k else None) 0 ≤ unwrap_or (if a || b then Some k else None) 0
full-more true b k = omega arith
full-more false b k = omega arith

-- the rounds of the first epoch are among those of the whole
awaited-first : (xs ys : List ℕ) (k : ℕ) → awaited_place (full_rounds xs) k ≤ awaited_place (full_rounds (xs ++ ys)) k
awaited-first xs ys k =
    awaited-more (full_rounds xs) (full_rounds (xs ++ ys)) k
    (λ i. rw (list_any-append (λ p. p == i) xs ys) (full-more (has_place i xs) (has_place i ys) i))

full-moved : (n k : ℕ) (a b : Bool) → n + unwrap_or (if b then Some k else None) 0 ≤ max n (unwrap_or (if a || b then Some (n + k) else None) 0)
full-moved n k true true = omega arith
full-moved n k true false = omega arith
full-moved n k false true = omega arith
full-moved n k false false = omega arith

-- and so are those of the next one
awaited-next : (n : ℕ) (xs ys : List ℕ) (k : ℕ)
    → n + awaited_place (full_rounds ys) k ≤ max n (awaited_place (full_rounds (xs ++ moved_places n ys)) (n + k))
awaited-next n xs ys zero = omega arith
awaited-next n xs ys (suc k) =
    let whole = full_rounds (xs ++ moved_places n ys) in
    let step : n + suc k ≡ suc (n + k) = omega arith in
    let own : n + unwrap_or (full_rounds ys (suc k)) 0 ≤ max n (unwrap_or (whole (n + suc k)) 0) =
    rw (list_any-append (λ p. p == n + suc k) xs (moved_places n ys), has_place-moved n (suc k) ys)
    (full-moved n (suc k) (has_place (n + suc k) xs) (has_place (suc k) ys)) in
    let last : awaited_place whole (n + suc k) ≡ max (awaited_place whole (n + k)) (unwrap_or (whole (n + suc k)) 0) = rw step refl in
    omega (arith, awaited-next n xs ys k, own, last)

-- ---- a schedule of the whole, from the next epoch on

abbrev pub later_part : ℕ → Schedule → Schedule
later_part n p k = option_map (λ m. m - n) (p (n + k))

count-later : (o : Option ℕ) (n a b c : ℕ) → a ≡ b + c
    → (if is_some o then a + 1 else a) ≡ b + (if is_some (option_map (λ m. m - n) o) then c + 1 else c)
count-later None n a b c e = e
count-later (Some m) n a b c e = omega arith

round_count-later : (n : ℕ) (p : Schedule) (k : ℕ) → round_count p (n + k) ≡ round_count p n + round_count (later_part n p) k
round_count-later n p zero = let here : n + 0 ≡ n = omega arith in rw here (omega arith)
round_count-later n p (suc k) =
    let step : n + suc k ≡ suc (n + k) = omega arith in
    rw step (count-later (p (suc (n + k))) n (round_count p (n + k)) (round_count p n) (round_count (later_part n p) k) (round_count-later n p k))

awaits-later : (o : Option ℕ) (n : ℕ) → unwrap_or o 0 ≤ n + unwrap_or (option_map (λ m. m - n) o) 0
awaits-later None n = omega arith
awaits-later (Some m) n = omega arith

awaited-later : (n d : ℕ) (p : Schedule) → IsSchedule (n + d) p → (k : ℕ) → awaited_place p (n + k) ≤ n + awaited_place (later_part n p) k
awaited-later n d p is zero = let here : n + 0 ≡ n = omega arith in rw here (omega (arith, awaited_place-le (n + d) p is n (omega arith)))
awaited-later n d p is (suc k) =
    let step : n + suc k ≡ suc (n + k) = omega arith in
    rw step (omega (arith, awaited-later n d p is k, awaits-later (p (suc (n + k))) n))

later-own : (o : Option ℕ) (n k m : ℕ) → ((l : ℕ) → o ≡ Some l → l ≤ n + k) → option_map (λ l. l - n) o ≡ Some m → m ≤ k
later-own None n k m own is = absurd cc
later-own (Some l) n k m own is = let same : l - n ≡ m = cc in omega (arith, own l refl)

is_schedule-later : (n d : ℕ) (p : Schedule) → IsSchedule (n + d) p → IsSchedule d (later_part n p)
is_schedule-later n d p is k m some le awaits =
    later-own (p (n + k)) n k m (λ l at. is (n + k) l (omega arith) (omega arith) at) awaits

-- ---- two certificates

module _ (n decided : ℕ) (within first next : ℕ → ℕ → Bool) (f g : ℕ → ℕ) (test : IsLimitTest within)
    (joins : JoinsTests n within first next) where
  abbrev reports : ℕ → ℕ
  reports = joined_reports n f g

  module _ (rounds more : List ℕ) (windows later : List Window) (one : IsCertificate first f n rounds windows)
      (two : IsCertificate next g decided more later) where
    -- ---- they keep the limits

    keeps-before : (k : ℕ) → 0 < k → k ≤ n → within (base reports (full_rounds (rounds ++ moved_places n more)) k) k ≡ true
    keeps-before k some le =
        let whole = full_rounds (rounds ++ moved_places n more) in
        let kept : within (base f (full_rounds rounds) k) k ≡ true = joins.before (base f (full_rounds rounds) k) k le ∙ one.keeps k some le in
        test.later (base f (full_rounds rounds) k) (base reports whole k) k
        (omega (arith, reports-before n f g k le, awaited-first rounds (moved_places n more) k)) kept

    keeps-after : (k : ℕ) → 0 < k → k ≤ decided → within (base reports (full_rounds (rounds ++ moved_places n more)) (n + k)) (n + k) ≡ true
    keeps-after k some le =
        let whole = full_rounds (rounds ++ moved_places n more) in
        let own = base g (full_rounds more) k in
        let kept : within (n + own) (n + k) ≡ true = joins.after own k ∙ two.keeps k some le in
        test.later (n + own) (base reports whole (n + k)) (n + k)
        (omega (arith, reports-after n f g k some, awaited-next n rounds more k)) kept

    keeps-joined : StaysWithin within reports (n + decided) (full_rounds (rounds ++ moved_places n more))
    keeps-joined k some le = elim (cases_lt n k) [
      | inl after ↦ (
          let here : n + (k - n) ≡ k = omega arith in
          let whole = full_rounds (rounds ++ moved_places n more) in
          let kept : within (base reports whole (n + (k - n))) (n + (k - n)) ≡ true = keeps-after (k - n) (omega arith) (omega arith) in
          rw here at kept)
      | inr before ↦ keeps-before k some before
    ]

    -- ---- the windows

    window-before : (w : Window) → IsWindow first f n w → IsWindow within reports (n + decided) w
    window-before w is = record {
      forward = is.forward;
      last = omega (arith, is.last);
      over = joins.before w.from w.to is.last ∙ is.over;
      unreported = omega (arith, reports-before n f g w.to is.last, is.unreported);
    }

    window-after : (w : Window) → IsWindow next g decided w → IsWindow within reports (n + decided) (record { from = n + w.from; to = n + w.to })
    window-after w is = record {
      forward = omega (arith, is.forward);
      last = omega (arith, is.last);
      over = joins.after w.from w.to ∙ is.over;
      unreported = omega (arith, reports-after n f g w.to (omega (arith, is.forward)), is.unreported);
    }

    disjoint-joined : AreDisjointWindows within reports (n + decided) (windows ++ moved_windows n later)
    disjoint-joined = record {
      each = All-append (IsWindow within reports (n + decided)) windows (moved_windows n later)
          (All-weaker (IsWindow first f n) (IsWindow within reports (n + decided)) window-before windows one.disjoint.each)
          (All-map (IsWindow within reports (n + decided)) (λ w. record { from = n + w.from; to = n + w.to }) later
          (All-weaker (IsWindow next g decided) (λ w. IsWindow within reports (n + decided) (record { from = n + w.from; to = n + w.to }))
          window-after later two.disjoint.each));
      apart = adjacent-append (λ v w. v.to ≤ w.from) (λ v. v.to ≤ n) (λ w. n ≤ w.from) (λ v w le ge. omega arith) windows (moved_windows n later)
          one.disjoint.apart (All-weaker (IsWindow first f n) (λ v. v.to ≤ n) (λ v is. is.last) windows one.disjoint.each)
          (map-adjacent (λ v w. v.to ≤ w.from) (λ v w. v.to ≤ w.from) (λ w. record { from = n + w.from; to = n + w.to })
          (λ v w le. omega arith) later two.disjoint.apart)
          (All-map (λ w. n ≤ w.from) (λ w. record { from = n + w.from; to = n + w.to }) later (λ i d there. omega arith));
    }

    certificate-joined : IsCertificate within reports (n + decided) (rounds ++ moved_places n more) (windows ++ moved_windows n later)
    certificate-joined = record {
      places = places-joined n decided rounds more one.places two.places;
      keeps = keeps-joined;
      disjoint = disjoint-joined;
      count = omega (
        arith,
        one.count,
        two.count,
        length-append windows (moved_windows n later),
        length-append rounds (moved_places n more),
        length-map {B = Window} later (λ w. record { from = n + w.from; to = n + w.to }),
        length-map more (λ k. n + k),
      );
    }

    -- ---- how many rounds there are

    count-before : (e : ℕ) → e ≤ n → count_upto e (rounds ++ moved_places n more) ≡ count_upto e rounds
    count-before e le =
        let none : count_upto e (moved_places n more) ≡ 0 =
        count_upto-none e (moved_places n more)
        (All-weaker (λ k. (n < k) × (k ≤ n + decided)) (λ k. e < k) (λ k is. omega (arith, is.0)) (moved_places n more) (after-join n decided more two.places)) in
        omega (arith, sum_by-append (λ k. cond (nat_le k e) 1 0) rounds (moved_places n more), none)

    count-after : (e : ℕ) → count_upto (n + e) (rounds ++ moved_places n more) ≡ length rounds + count_upto e more
    count-after e =
        let all : count_upto (n + e) rounds ≡ length rounds =
        count_upto-all (n + e) rounds (All-weaker (λ k. k ≤ n) (λ k. k ≤ n + e) (λ k le. omega arith) rounds (upto-join n rounds one.places)) in
        omega (arith, sum_by-append (λ k. cond (nat_le k (n + e)) 1 0) rounds (moved_places n more), all, count_upto-moved n e more)

pub certificates_join : CertificatesJoin
certificates_join n decided within first next f g test joins rounds more windows later one two =
    certificate-joined n decided within first next f g test joins rounds more windows later one two

-- ---- the fewest rounds

module _ (n decided : ℕ) (within first next : ℕ → ℕ → Bool) (f g : ℕ → ℕ) (test : IsLimitTest within)
    (joins : JoinsTests n within first next) (p : Schedule) (is : IsSchedule (n + decided) p)
    (keeps : StaysWithin within (joined_reports n f g) (n + decided) p) where
  -- up to the end of the first epoch a schedule of the whole is one of that epoch
  pub keeps-first : StaysWithin first f n p
  keeps-first k some le =
      sym (joins.before (base f p k) k le)
      ∙ test.later (base (joined_reports n f g) p k) (base f p k) k (omega (arith, reports-before n f g k le)) (keeps k some (omega arith))

  -- and from there on one of the next
  pub keeps-next : StaysWithin next g decided (later_part n p)
  keeps-next k some le =
      let own = base g (later_part n p) k in
      sym (joins.after own k)
      ∙ test.later (base (joined_reports n f g) p (n + k)) (n + own) (n + k)
      (omega (arith, reports-after n f g k some, awaited-later n decided p is k))
      (keeps (n + k) (omega arith) (omega arith))

pub fewest_rounds_join : FewestRoundsJoin
fewest_rounds_join n decided within first next f g test joins rounds more windows later one two =
    let reports = joined_reports n f g in
    let whole : IsCertificate within reports (n + decided) (rounds ++ moved_places n more) (windows ++ moved_windows n later) =
    certificates_join n decided within first next f g test joins rounds more windows later one.certificate two.certificate in
    record {
      certificate = whole;
      longest = λ ws are.
          omega (
            arith,
            no_fewer_rounds_than_windows within reports (n + decided) test (full_rounds (rounds ++ moved_places n more))
                (round_places_are_a_schedule (n + decided) (rounds ++ moved_places n more) whole.places).0 whole.keeps ws are,
            round_count-places (n + decided) (rounds ++ moved_places n more) whole.places,
          );
      fewest = λ p is keeps e le. elim (cases_lt n e) [
        | inl after ↦ (
            let here : n + (e - n) ≡ e = omega arith in
            let counted : count_upto (n + (e - n)) (rounds ++ moved_places n more) ≡ length rounds + count_upto (e - n) more =
            count-after n decided within first next f g test joins rounds more windows later one.certificate two.certificate (e - n) in
            let count : count_upto e (rounds ++ moved_places n more) ≡ length rounds + count_upto (e - n) more = rw here at counted in
            let parted : round_count p (n + (e - n)) ≡ round_count p n + round_count (later_part n p) (e - n) = round_count-later n p (e - n) in
            let parts : round_count p e ≡ round_count p n + round_count (later_part n p) (e - n) = rw here at parted in
            let upto : count_upto n rounds ≡ length rounds =
            count_upto-all n rounds
            (upto-join n rounds one.certificate.places) in
            omega (
              arith,
              count,
              parts,
              upto,
              one.fewest p (λ k m some last awaits. is k m some (omega arith) awaits)
                  (keeps-first n decided within first next f g test joins p is keeps) n (omega arith),
              two.fewest (later_part n p) (is_schedule-later n decided p is)
                  (keeps-next n decided within first next f g test joins p is keeps) (e - n) (omega arith),
            ))
        | inr before ↦ omega (
          arith,
          count-before n decided within first next f g test joins rounds more windows later one.certificate two.certificate e before,
          one.fewest p (λ k m some last awaits. is k m some (omega arith) awaits)
              (keeps-first n decided within first next f g test joins p is keeps) e before,
        )
      ];
    }
