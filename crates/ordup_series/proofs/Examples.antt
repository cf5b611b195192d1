-- A series of two records, worked out by hand. The first begins with x at 0 and y at 10 and ends with x at 6. Its limit on x is 5, so its
-- second update has a round. The next one begins there with the limit 4, which is 1 from its second update on, so that has one too.
use Rattle.std.proofs.Common.{◌≡◌, ◌≢◌, ◌≤◌, ◌∙◌, ℕ, ◌+◌, ◌==◌, List, [], ◌∷◌, length, pos, take, inl, inr, refl, sym, ap, arith, unsigned_abs}
use Rattle.std.specs.Prelude.{◌<◌, Bool, IfSome, Some, codes, nat_le, true, false, slice_index_or, unwrap_or, All}
use Rattle.std.specs.Str.{bytes_eq}
use Rattle.std.proofs.lemmas.Bool.{agree_below, agree_below_at, cases_lt, false≢true, leb-true}
use Rattle.std.proofs.lemmas.List.Elements.{All-nil, All-cons}
use Rattle.ordup_objects.specs.declared.change.Change.{Change}
use Rattle.ordup_objects.specs.declared.change.Op.TheVariants.{Add}
use Rattle.ordup_objects.specs.Ops.{number_of}
use Rattle.ordup_objects.specs.Sets.{AreKnown, IsKnown, IsSet}
use Rattle.ordup_objects.specs.States.{IsInRange, value_at}
use Rattle.ordup_objects.specs.Tables.{Objects, initial_state, names_of}
use Rattle.ordup_log.specs.Groups.{GroupList}
use Rattle.ordup_log.specs.declared.scope.Scope.TheVariants.{Object}
use Rattle.ordup_limits.specs.Entries.{Entries}
use Rattle.ordup_limits.specs.declared.limit_entry.LimitEntry.{LimitEntry}
use Rattle.ordup_rounds.specs.Rounds.{full_rounds}
use Rattle.ordup_rounds.specs.Schedules.{IsSchedule, StaysWithin, base}
use Rattle.ordup_rounds.specs.Windows.{IsWindow}
use Rattle.ordup_rounds.specs.declared.window.Window.{Window}
use Rattle.ordup_audit.specs.Passing.{PassesBelow}
use Rattle.ordup_audit.specs.Records.{RecordState, is_within as is_record_within, report_at}
use Rattle.ordup_audit.specs.Validity.{IsValid}
use Rattle.ordup_audit.specs.Verdicts.{ArePlacesWithin, AreUpdatesLegal}
use Rattle.ordup_audit.specs.declared.verdict.Reason.TheVariants.{LimitsBroken}
use Rattle.ordup_series.specs.Audits.{IsLastEnd, IsSeriesVerdict, IsWholeVerdict, NoFewerRoundsOfWhole}
use Rattle.ordup_series.specs.Ends.{DifferAfter, DiffersAtRow, EndState, IsEnd, group_at}
use Rattle.ordup_series.specs.Series.{IsNext, Whole, is_within, length_of, series_of}
use Rattle.ordup_series.specs.declared.verdict.SeriesReason.TheVariants.{NotNext, OfRecord}
use Rattle.ordup_series.specs.declared.verdict.SeriesVerdict.TheVariants.{Fewest, No}
use Rattle.ordup_series.proofs.AuditLemmas.{not-certified, not-series}
use Rattle.ordup_series.proofs.SeriesLemmas.{certified_series_have_the_fewest_rounds, valid_series_are_certified}

-- ---- the records

-- one change, which adds to object x
abbrev adds : ℕ → List Change
adds n = record { object = 0; op = Add (pos n) } ∷ []

-- the limit on x, from a place on
abbrev limit : ℕ → ℕ → LimitEntry
limit amount place = record { limit = record { scope = Object 0; amount = amount }; place = place }

abbrev from_to : ℕ → ℕ → Window
from_to a b = record { from = a; to = b }

-- x at this value, and y at 10
abbrev values : ℕ → Objects
values x = (codes "x", pos x) ∷ (codes "y", pos 10) ∷ []

-- the group g of both objects
abbrev grouped : GroupList
grouped = (codes "g", 0 ∷ 1 ∷ []) ∷ []

-- two updates, of which the second has a round
abbrev two_updates : Objects → ℕ → ℕ → Entries → RecordState
two_updates objects one two limits = record {
  site = codes "a";
  objects = objects;
  groups = grouped;
  limits = limits;
  sets = adds one ∷ adds two ∷ [];
  reports = [];
  rounds = 2 ∷ [];
  windows = from_to 0 2 ∷ [];
}

abbrev first : RecordState
first = two_updates (values 0) 5 1 (limit 5 1 ∷ [])

abbrev next : RecordState
next = two_updates (values 6) 4 1 (limit 4 1 ∷ limit 1 2 ∷ [])

-- ---- what a record ends with

abbrev end : EndState
end = record { site = codes "a"; objects = values 6; groups = grouped }

end-first : IsEnd first end
end-first = record { site = refl; objects = record { names = refl; values = refl }; groups = refl }

-- not with the values at its beginning
end-not_initial : IsEnd first (record end { objects = values 0 }) → ⊥
end-not_initial is = absurd (let same = is.objects.values in cc)

is-next : IsNext first next
is-next = record { site = refl; names = refl; values = refl; groups = refl }

-- a record is not next to itself: x begins at 0 again
not-next_itself : IsNext first first → ⊥
not-next_itself is = absurd (let same = is.values in cc)

-- ---- both are valid

-- a test that passes at each of the first numbers, as it computes
each : (test : ℕ → Bool) (n : ℕ) → agree_below test (λ i. true) n ≡ true → PassesBelow test n
each test n all k there = agree_below_at test (λ i. true) n k all there

just : {X : Type 0} (P : X → Type 0) (x : X) → P x → All P (x ∷ [])
just P x px = All-cons P x [] px (All-nil P)

both : {X : Type 0} (P : X → Type 0) (x y : X) → P x → P y → All P (x ∷ y ∷ [])
both P x y px py = All-cons P x (y ∷ []) px (just P y py)

is_set : (n : ℕ) → n ≤ 1000000000 → IsSet (adds n)
is_set n few = record {
  some = omega arith;
  few = omega arith;
  numbers = just (λ (c : Change). IfSome (number_of c.op) IsInRange) (record { object = 0; op = Add (pos n) }) few;
  distinct = refl;
}

known : (n : ℕ) → AreKnown 2 (adds n)
known n = just (IsKnown 2) (record { object = 0; op = Add (pos n) }) (omega arith, tt)

-- where two updates are in range, the limits are kept, and the span of the window passes one
valid-from : (v one two : ℕ) (limits : Entries) → v ≤ 1000000000 → one ≤ 1000000000 → two ≤ 1000000000
    → AreUpdatesLegal (two_updates (values v) one two limits) → ArePlacesWithin (two_updates (values v) one two limits)
    → is_record_within (two_updates (values v) one two limits) 0 2 ≡ false → IsValid (two_updates (values v) one two limits)
valid-from v one two limits few_v few_one few_two legal kept over =
    let r = two_updates (values v) one two limits in
    record {
      legal = record {
        start = both IsInRange (pos v) (pos 10) few_v (omega arith);
        sets = both IsSet (adds one) (adds two) (is_set one few_one) (is_set two few_two);
        known = both (AreKnown 2) (adds one) (adds two) (known one) (known two);
        legal = legal;
      };
      certificate = record {
        places = record {
          ascending = λ i there. absurd (omega arith);
          each = just (λ k. (0 < k) × (k ≤ 2)) 2 (omega arith, omega arith);
        };
        keeps = λ k some le. elim (cases_lt 1 k) [
          | inl second ↦ (let at : k ≡ 2 = omega arith in rw at (kept 1 (omega arith)))
          | inr upto ↦ (let at : k ≡ 1 = omega arith in rw at (kept 0 (omega arith)))
        ];
        disjoint = record {
          each = just (IsWindow (is_record_within r) (report_at []) 2) (from_to 0 2)
              (record { forward = omega arith; last = omega arith; over = over; unreported = omega arith });
          apart = λ i d there. absurd (omega arith);
        };
        count = refl;
      };
    }

valid-first : IsValid first
valid-first = valid-from 0 5 1 (limit 5 1 ∷ []) (omega arith) (omega arith) (omega arith) (each _ 2 refl) (each _ 2 refl) refl

valid-next : IsValid next
valid-next =
    valid-from 6 4 1 (limit 4 1 ∷ limit 1 2 ∷ []) (omega arith) (omega arith) (omega arith) (each _ 2 refl) (each _ 2 refl) refl

-- ---- a series that is valid, and its whole

valid-both : IsSeriesVerdict (first ∷ []) next (Fewest 2)
valid-both = (((is-next, tt), (valid-first, valid-next)), refl)

-- a record alone
valid-alone : IsSeriesVerdict [] first (Fewest 1)
valid-alone = ((tt, valid-first), refl)

abbrev whole : Whole
whole = series_of first (next ∷ [])

-- the updates one after the other, and each place behind those of the first
whole-rounds : (length_of whole ≡ 4) × (whole.rounds ≡ 2 ∷ 4 ∷ []) × (whole.windows ≡ from_to 0 2 ∷ from_to 2 4 ∷ [])
whole-rounds = (refl, refl, refl)

-- all of the first is reported at the places of the next one
whole-reports : (whole.reported_at 2 ≡ 0) × (whole.reported_at 3 ≡ 2)
whole-reports = (refl, refl)

-- the limit on x is 5 at place 2, 4 at place 3, and 1 at place 4
whole-limits : (is_within whole 0 1 ≡ true) × (is_within whole 0 2 ≡ false) × (is_within whole 2 3 ≡ true) × (is_within whole 2 4 ≡ false)
    × (is_within whole 3 4 ≡ true)
whole-limits = (refl, refl, refl, refl, refl)

-- no schedule of the four updates has fewer rounds than two, and there is one that has no more
whole-fewest : IsWholeVerdict (first ∷ []) next (Fewest 2)
whole-fewest =
    let certified = valid_series_are_certified first (next ∷ []) (is-next, tt) (valid-first, valid-next) in
    (certified, certified_series_have_the_fewest_rounds first (next ∷ []) certified)

whole-scheduled : IsSchedule 4 (full_rounds (2 ∷ 4 ∷ []))
whole-scheduled k m some le awaits =
    let upto : nat_le (unwrap_or (full_rounds (2 ∷ 4 ∷ []) k) 0) k ≡ true =
    each (λ i. nat_le (unwrap_or (full_rounds (2 ∷ 4 ∷ []) i) 0) i) 5 refl k (omega arith) in
    leb-true m k (rw awaits at upto)

whole-kept : StaysWithin (is_within whole) whole.reported_at 4 (full_rounds (2 ∷ 4 ∷ []))
whole-kept k some le = each (λ i. is_within whole (base whole.reported_at (full_rounds (2 ∷ 4 ∷ [])) i) i) 5 refl k (omega arith)

not-three : NoFewerRoundsOfWhole (first ∷ next ∷ []) 3 → ⊥
not-three fewest = absurd (let le : 3 ≤ 2 = fewest (full_rounds (2 ∷ 4 ∷ [])) whole-scheduled whole-kept in omega arith)

-- the span from place 1 to place 3 is over the limit there, but is no window: the site has reported the first record by then
over-join : is_within whole 1 3 ≡ false
over-join = refl

no_window-over_join : IsWindow (is_within whole) whole.reported_at 4 (from_to 1 3) → ⊥
no_window-over_join is = absurd (let known : 2 ≤ 1 = is.unreported in omega arith)

-- ---- a record that is not next, in each way

-- two things of which a test tells one from the other
apart : {X : Type 0} (test : X → Bool) (x y : X) → test x ≡ true → test y ≡ false → x ≢ y
apart test x y here there same = false≢true (sym there ∙ (ap test (sym same) ∙ here))

-- of another site, in row 1
other_site : DiffersAtRow end (record next { site = codes "b" }) 1
other_site = inl (apart (λ s. bytes_eq s (codes "b")) (codes "b") (codes "a") refl refl, refl)

-- the first value is this one, and the second name
abbrev is_first : ℕ → Objects → Bool
is_first v o = unsigned_abs (value_at (initial_state o) 0) == v

abbrev is_second : List ℕ → Objects → Bool
is_second name o = bytes_eq (slice_index_or (names_of o) 1 []) name

-- objects differ where a test tells them apart
objects-differ : (i : ℕ) (objects : Objects) (test : Objects → Bool) → take i (values 6) ≡ take i objects
    → test (take (i + 1) (values 6)) ≡ true → test (take (i + 1) objects) ≡ false
    → DiffersAtRow end (record next { objects = objects }) (i + 2)
objects-differ i objects test same here there =
    inr (refl, inl (i, record { same = same; differ = apart test (take (i + 1) (values 6)) (take (i + 1) objects) here there }, refl))

-- x a bag less than the one before ended with, in row 2
less : DiffersAtRow end (record next { objects = values 5 }) 2
less = objects-differ 0 (values 5) (is_first 6) refl refl refl

-- with the values that the one before began with
initial : DiffersAtRow end (record next { objects = values 0 }) 2
initial = objects-differ 0 (values 0) (is_first 6) refl refl refl

-- the second object by another name, in row 3
renamed : DiffersAtRow end (record next { objects = (codes "x", pos 6) ∷ (codes "z", pos 10) ∷ [] }) 3
renamed = objects-differ 1 ((codes "x", pos 6) ∷ (codes "z", pos 10) ∷ []) (is_second (codes "y")) refl refl refl

-- without the second object, and with a third, in row 4
fewer_objects : DiffersAtRow end (record next { objects = (codes "x", pos 6) ∷ [] }) 3
fewer_objects = objects-differ 1 ((codes "x", pos 6) ∷ []) (is_second (codes "y")) refl refl refl

more_objects : DiffersAtRow end (record next { objects = (codes "x", pos 6) ∷ (codes "y", pos 10) ∷ (codes "z", pos 0) ∷ [] }) 4
more_objects =
    objects-differ 2 ((codes "x", pos 6) ∷ (codes "y", pos 10) ∷ (codes "z", pos 0) ∷ []) (λ o. length o == 2) refl refl refl

-- the group differs from the one before where a test tells them apart
groups-differ : (groups : GroupList) (test : GroupList → Bool) → test (take 1 grouped) ≡ true → test (take 1 groups) ≡ false
    → DifferAfter 0 grouped groups
groups-differ groups test here there = record { same = refl; differ = apart test (take 1 grouped) (take 1 groups) here there }

-- the group by another name, in row 4
abbrev of_h : GroupList
of_h = (codes "h", 0 ∷ 1 ∷ []) ∷ []

other_group : DiffersAtRow end (record next { groups = of_h }) 4
other_group =
    let is_g : List ℕ → Bool = λ name. bytes_eq name (codes "g") in
    let differ = groups-differ of_h (λ g. is_g (group_at g 0).0) refl refl in
    inr (refl, inr (refl, 0, (0, 0, differ, inl (apart is_g (codes "g") (codes "h") refl refl, refl), refl), refl))

-- without its second member, in row 5
abbrev of_one : GroupList
of_one = (codes "g", 0 ∷ []) ∷ []

fewer_members : DiffersAtRow end (record next { groups = of_one }) 5
fewer_members =
    let differ = groups-differ of_one (λ g. length (group_at g 0).1 == 2) refl refl in
    let members : DifferAfter 1 (0 ∷ 1 ∷ []) (0 ∷ []) =
    record { same = refl; differ = apart (λ m. length m == 2) (0 ∷ 1 ∷ []) (0 ∷ []) refl refl } in
    inr (refl, inr (refl, 1, (0, 1, differ, inr (refl, members), refl), refl))

-- with a group more, in row 6
abbrev of_two : GroupList
of_two = (codes "g", 0 ∷ 1 ∷ []) ∷ (codes "h", 0 ∷ []) ∷ []

more_groups : DiffersAtRow end (record next { groups = of_two }) 6
more_groups =
    let differ : DifferAfter 1 grouped of_two = record { same = refl; differ = apart (λ g. length g == 1) grouped of_two refl refl } in
    inr (refl, inr (refl, 2, (1, 0, differ, inl (apart (λ name. length name == 0) [] (codes "h") refl refl, refl), refl), refl))

-- so the verdict is no, and no series that begins so is certified as a whole
verdict-less : IsSeriesVerdict (first ∷ []) (record next { objects = values 5 }) (No 2 2 NotNext)
verdict-less =
    let last : IsLastEnd (first ∷ []) (Some end) = (end, end-first, refl) in
    (refl, not-series (first ∷ []) (record next { objects = values 5 }) [] end 2 last less, end, last, less)

whole-less : IsWholeVerdict (first ∷ []) (record next { objects = values 5 }) (No 2 2 NotNext)
whole-less more is own certified = not-series (first ∷ []) (record next { objects = values 5 }) more end 2 (end, end-first, refl) less is

-- ---- a record that is next and not valid

-- without its round, in row 9: the head, two objects, two members, two limits, one change, and the second
abbrev unforced : RecordState
unforced = record next { rounds = [] }

not_valid-unforced : IsValid unforced → ⊥
not_valid-unforced valid = false≢true (valid.certificate.keeps 2 (omega arith) (omega arith))

verdict-unforced : IsSeriesVerdict (first ∷ []) unforced (No 2 9 (OfRecord LimitsBroken))
verdict-unforced =
    let next_to_first : IsNext first unforced = record { site = refl; names = refl; values = refl; groups = refl } in (
      refl,
      (next_to_first, tt),
      not_valid-unforced,
      (
        each _ 2 refl,
        (1, record { there = omega arith; fails = refl; before = each _ 1 refl }, refl),
      ),
    )

whole-unforced : IsWholeVerdict (first ∷ []) unforced (No 2 9 (OfRecord LimitsBroken))
whole-unforced more is own certified = not-certified (first ∷ []) unforced more not_valid-unforced is own certified

-- whatever follows it, there is no number of rounds
none-after : (n : ℕ) → IsSeriesVerdict (first ∷ unforced ∷ []) next (Fewest n) → ⊥
none-after n verdict = not_valid-unforced verdict.0.1.1.0
