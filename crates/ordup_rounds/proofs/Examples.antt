-- The definitions at a case of seven places, worked out by hand. The limit is 2 updates. The site had reported nothing at the decisions
-- of the places 1 to 3, then 3 updates at those of 4 and 5, and 4 at those of 6 and 7. So it is forced at 3 and at 7.
use Rattle.std.proofs.Common.{◌≡◌, ℕ, ◌-◌, ◌<◌, ◌≤◌, ◌==◌, Bool, true, false}
use Rattle.std.proofs.Common.{Some, None, List, [], ◌∷◌, ◌+◌, length, not, inl, inr, arith, refl, sym, ◌∙◌}
use Rattle.std.specs.Prelude.{◌||◌, if◌then◌else◌, nat_le, nat_lt, unwrap_or, is_some, slice_index}
use Rattle.std.proofs.lemmas.Bool.{agree_below, agree_below_at, le-leb, leb-true, or_cases, or_left, or_right, true≢false, false≢true}
use Rattle.std.proofs.lemmas.List.Elements.{All-nil, All-cons}
use Rattle.ordup_rounds.specs.declared.window.Window.{Window}
use Rattle.ordup_rounds.specs.Schedules.{IsLimitTest, Schedule, IsSchedule, round_count, base, StaysWithin}
use Rattle.ordup_rounds.specs.Windows.{IsWindow, AreDisjointWindows, HasRoundIn}
use Rattle.ordup_rounds.specs.Rounds.{AreRoundPlaces, count_upto, full_rounds, rounds_upto, windows_upto, AreRoundsReported}
use Rattle.ordup_rounds.specs.Fewest.{IsCertificate, AreFewest}
use Rattle.ordup_rounds.specs.Joins.{JoinsTests, joined_reports, moved_places, moved_windows}
use Rattle.ordup_rounds.proofs.RoundLemmas.{forced_rounds_are_fewest}
use Rattle.ordup_rounds.proofs.JoinLemmas.{fewest_rounds_join}

abbrev few : ℕ → ℕ → Bool
few a b = nat_le (b - a) 2

abbrev reports : ℕ → ℕ
reports k = slice_index (0 ∷ 0 ∷ 0 ∷ 3 ∷ 3 ∷ 4 ∷ 4 ∷ []) (k - 1)

-- two rounds: place 3 waits for 1, and place 7 for m
abbrev waits : ℕ → Schedule
waits m k = if k == 3 then Some 1 else if k == 7 then Some m else None

abbrev from_to : ℕ → ℕ → Window
from_to a b = record { from = a; to = b }

limit : IsLimitTest few
limit = record {
  later = λ a b c le kept. le-leb (c - b) 2 (omega (arith, leb-true (c - a) 2 kept));
  empty = λ a b le. le-leb (b - a) 2 (omega arith);
}

-- the limit may be lifted at a place
limit-lifted : IsLimitTest (λ a b. b == 5 || few a b)
limit-lifted = record {
  later = λ a b c le kept. elim (or_cases (c == 5) (few a c) kept) [
    | inl lifted ↦ or_left (c == 5) (few b c) lifted
    | inr near ↦ or_right (c == 5) (few b c) (limit.later a b c le near)
  ];
  empty = λ a b le. or_right (b == 5) (few a b) (limit.empty a b le);
}

-- a span from a place to itself is empty
limit-strict : IsLimitTest (λ a b. nat_lt b a) → ⊥
limit-strict is = false≢true (is.empty 3 3 (omega arith))

-- a test that passes at each of the first places, as it computes
each : (test : ℕ → Bool) (n k : ℕ) → agree_below test (λ i. true) n ≡ true → k < n → test k ≡ true
each test n k all there = agree_below_at test (λ i. true) n k all there

-- ---- schedules

counts : (round_count (waits 5) 2 ≡ 0) × (round_count (waits 5) 3 ≡ 1) × (round_count (waits 5) 7 ≡ 2)
counts = (refl, refl, refl)

-- a partial round moves the base of its own place, and of later ones where the report is not further
base-partial : (base reports (waits 5) 2 ≡ 0) × (base reports (waits 5) 3 ≡ 1) × (base reports (waits 5) 4 ≡ 3)
    × (base (λ k. 0) (waits 5) 4 ≡ 1)
base-partial = (refl, refl, refl, refl)

-- by the furthest that a round waits for, and not by the last
base-furthest : (base reports (waits 5) 7 ≡ 5) × (base (λ k. 0) (waits 0) 7 ≡ 1)
base-furthest = (refl, refl)

waits-own : IsSchedule 7 (waits 7)
waits-own k m some le awaits =
    let upto : nat_le (unwrap_or (waits 7 k) 0) k ≡ true = each (λ i. nat_le (unwrap_or (waits 7 i) 0) i) 8 k refl (omega arith) in
    leb-true m k (rw awaits at upto)

waits-later : IsSchedule 7 (waits 8) → ⊥
waits-later is = absurd (let le : 8 ≤ 7 = is 7 8 (omega arith) (omega arith) refl in omega arith)

-- what stands at places that are not decided does not matter
waits-undecided : IsSchedule 6 (waits 8)
waits-undecided k m some le awaits =
    let upto : nat_le (unwrap_or (waits 8 k) 0) k ≡ true = each (λ i. nat_le (unwrap_or (waits 8 i) 0) i) 7 k refl (omega arith) in
    leb-true m k (rw awaits at upto)

keeps-undecided : StaysWithin few reports 6 (waits 4)
keeps-undecided k some le = each (λ i. few (base reports (waits 4) i) i) 7 k refl (omega arith)

-- from 5 to 7 there are 2 updates: equal is not over
keeps-equal : StaysWithin few reports 7 (waits 5)
keeps-equal k some le = each (λ i. few (base reports (waits 5) i) i) 8 k refl (omega arith)

keeps-too_little : StaysWithin few reports 7 (waits 4) → ⊥
keeps-too_little keeps = false≢true (keeps 7 (omega arith) (omega arith))

keeps-full : StaysWithin few reports 7 (full_rounds (1 ∷ 5 ∷ []))
keeps-full k some le = each (λ i. few (base reports (full_rounds (1 ∷ 5 ∷ [])) i) i) 8 k refl (omega arith)

-- a round at 4 is no help to place 7
keeps-too_early : StaysWithin few reports 7 (full_rounds (1 ∷ 4 ∷ [])) → ⊥
keeps-too_early keeps = false≢true (keeps 7 (omega arith) (omega arith))

-- ---- windows

window-first : IsWindow few reports 7 (from_to 0 3)
window-first = record { forward = omega arith; last = omega arith; over = refl; unreported = omega arith }

window-last : IsWindow few reports 7 (from_to 4 7)
window-last = record { forward = omega arith; last = omega arith; over = refl; unreported = omega arith }

window-equal : IsWindow few reports 7 (from_to 5 7) → ⊥
window-equal is = true≢false is.over

window-reported : IsWindow few reports 7 (from_to 3 7) → ⊥
window-reported is = absurd (let known : 4 ≤ 3 = is.unreported in omega arith)

window-undecided : IsWindow few reports 6 (from_to 4 7) → ⊥
window-undecided is = absurd (let last : 7 ≤ 6 = is.last in omega arith)

window-empty : IsWindow (λ a b. false) reports 7 (from_to 4 4) → ⊥
window-empty is = absurd (let forward : 4 < 4 = is.forward in omega arith)

round-last : HasRoundIn (full_rounds (3 ∷ 7 ∷ [])) (from_to 4 7)
round-last = (7, omega arith, omega arith, refl)

-- the place from which a window starts is not in it
round-before : HasRoundIn (full_rounds (4 ∷ 8 ∷ [])) (from_to 4 7) → ⊥
round-before has =
    let none : (nat_le has.0 4 || not (is_some (full_rounds (4 ∷ 8 ∷ []) has.0))) ≡ true =
    each (λ i. nat_le i 4 || not (is_some (full_rounds (4 ∷ 8 ∷ []) i))) 8 has.0 refl (omega (arith, has.2)) in
    elim (or_cases (nat_le has.0 4) (not (is_some (full_rounds (4 ∷ 8 ∷ []) has.0))) none) [
      | inl before ↦ absurd (let le : has.0 ≤ 4 = leb-true has.0 4 before in omega (arith, has.1))
      | inr missing ↦ absurd (false≢true (rw has.3 at missing))
    ]

-- without reports the spans from 0 to 3, from 2 to 5 and from 3 to 6 are windows; the second shares a place with each of the others
disjoint-touching : AreDisjointWindows few (λ k. 0) 6 (from_to 0 3 ∷ from_to 3 6 ∷ [])
disjoint-touching = record {
  each = All-cons (IsWindow few (λ k. 0) 6) (from_to 0 3) (from_to 3 6 ∷ [])
      (record { forward = omega arith; last = omega arith; over = refl; unreported = omega arith })
      (All-cons (IsWindow few (λ k. 0) 6) (from_to 3 6) []
      (record { forward = omega arith; last = omega arith; over = refl; unreported = omega arith }) (All-nil (IsWindow few (λ k. 0) 6)));
  apart = λ i d there. (let first : i ≡ 0 = omega arith in rw first (omega arith));
}

window-between : IsWindow few (λ k. 0) 6 (from_to 2 5)
window-between = record { forward = omega arith; last = omega arith; over = refl; unreported = omega arith }

disjoint-light : AreDisjointWindows few (λ k. 0) 6 (from_to 0 3 ∷ from_to 4 6 ∷ []) → ⊥
disjoint-light are = true≢false (are.each 1 (from_to 0 0) (omega arith)).over

disjoint-shared : AreDisjointWindows few (λ k. 0) 6 (from_to 0 3 ∷ from_to 2 5 ∷ []) → ⊥
disjoint-shared are = absurd (let apart : 3 ≤ 2 = are.apart 0 (from_to 0 0) (omega arith) in omega arith)

disjoint-disordered : AreDisjointWindows few (λ k. 0) 6 (from_to 3 6 ∷ from_to 0 3 ∷ []) → ⊥
disjoint-disordered are = absurd (let apart : 6 ≤ 0 = are.apart 0 (from_to 0 0) (omega arith) in omega arith)

-- ---- lists of places, and the rule

places-two : AreRoundPlaces 7 (3 ∷ 7 ∷ [])
places-two = record {
  ascending = λ i there. (let first : i ≡ 0 = omega arith in rw first (omega arith));
  each = All-cons (λ k. (0 < k) × (k ≤ 7)) 3 (7 ∷ []) (omega arith, omega arith)
      (All-cons (λ k. (0 < k) × (k ≤ 7)) 7 [] (omega arith, omega arith) (All-nil (λ k. (0 < k) × (k ≤ 7))));
}

places-twice : AreRoundPlaces 7 (3 ∷ 3 ∷ []) → ⊥
places-twice are = absurd (let lt : 3 < 3 = are.ascending 0 (omega arith) in omega arith)

places-zero : AreRoundPlaces 7 (0 ∷ 3 ∷ []) → ⊥
places-zero are = absurd (let some : 0 < 0 = (are.each 0 0 (omega arith)).0 in omega arith)

places-undecided : AreRoundPlaces 6 (3 ∷ 7 ∷ []) → ⊥
places-undecided are = absurd (let last : 7 ≤ 6 = (are.each 1 0 (omega arith)).1 in omega arith)

full : (full_rounds (3 ∷ 7 ∷ []) 7 ≡ Some 7) × (full_rounds (3 ∷ 7 ∷ []) 4 ≡ None)
full = (refl, refl)

upto : (count_upto 6 (3 ∷ 7 ∷ []) ≡ 1) × (count_upto 7 (3 ∷ 7 ∷ []) ≡ 2)
upto = (refl, refl)

rule : (rounds_upto few reports 7 ≡ 3 ∷ 7 ∷ []) × (windows_upto few reports 7 ≡ from_to 0 3 ∷ from_to 4 7 ∷ [])
rule = (refl, refl)

-- by the report at the place itself, and not by the one before
rule-own : windows_upto (λ a b. nat_lt b 3) (λ k. k - 2) 3 ≡ from_to 1 3 ∷ []
rule-own = refl

-- a place was kept, or reported, or is not before another
abbrev is_answered : ℕ → ℕ → Bool
is_answered j k = nat_le k j || (few (reports j) j || nat_le j (reports k))

reported : AreRoundsReported few reports 7
reported j k some lt last over =
    let at : agree_below (is_answered j) (λ i. true) 8 ≡ true =
    each (λ i. agree_below (is_answered i) (λ l. true) 8) 8 j refl (omega arith) in
    elim (or_cases (nat_le k j) (few (reports j) j || nat_le j (reports k)) (each (is_answered j) 8 k at (omega arith))) [
      | inl before ↦ absurd (let le : k ≤ j = leb-true k j before in omega arith)
      | inr answered ↦ leb-true j (reports k) (rw over at answered)
    ]

fewest : AreFewest few reports 7 (3 ∷ 7 ∷ []) (from_to 0 3 ∷ from_to 4 7 ∷ [])
fewest = forced_rounds_are_fewest few reports 7 limit reported

-- so each schedule that keeps the limit has a round up to place 6, and two up to 7
rounds-least : (p : Schedule) → IsSchedule 7 p → StaysWithin few reports 7 p → (1 ≤ round_count p 6) × (2 ≤ round_count p 7)
rounds-least p is keeps = (fewest.fewest p is keeps 6 (omega arith), fewest.fewest p is keeps 7 (omega arith))

windows-most : (ws : List Window) → AreDisjointWindows few reports 7 ws → length ws ≤ 2
windows-most = fewest.longest

-- a certificate has both windows and both rounds, in their order
certificate-both : IsCertificate few reports 7 (3 ∷ 7 ∷ []) (from_to 0 3 ∷ from_to 4 7 ∷ [])
certificate-both = fewest.certificate

certificate-one_window : IsCertificate few reports 7 (3 ∷ 7 ∷ []) (from_to 4 7 ∷ []) → ⊥
certificate-one_window is = absurd (let count : 1 ≡ 2 = is.count in omega arith)

certificate-one_round : IsCertificate few reports 7 (7 ∷ []) (from_to 4 7 ∷ []) → ⊥
certificate-one_round is = false≢true (is.keeps 3 (omega arith) (omega arith))

certificate-places : IsCertificate few reports 7 (7 ∷ 3 ∷ []) (from_to 0 3 ∷ from_to 4 7 ∷ []) → ⊥
certificate-places is = absurd (let lt : 7 < 3 = is.places.ascending 0 (omega arith) in omega arith)

certificate-windows : IsCertificate few reports 7 (3 ∷ 7 ∷ []) (from_to 4 7 ∷ from_to 0 3 ∷ []) → ⊥
certificate-windows is = absurd (let apart : 7 ≤ 0 = is.disjoint.apart 0 (from_to 0 0) (omega arith) in omega arith)

-- ---- a next epoch of three places, in which nothing is reported before its place 3: it has its one round there, the place 10 of both

-- in the next epoch all seven places of the first are reported, and what is reported in it comes after them
reports-joined : (joined_reports 7 reports (λ k. k - 1) 5 ≡ 3) × (joined_reports 7 reports (λ k. k - 1) 7 ≡ 4)
    × (joined_reports 7 reports (λ k. k - 1) 8 ≡ 7) × (joined_reports 7 reports (λ k. k - 1) 10 ≡ 9)
reports-joined = (refl, refl, refl, refl)

moved : (moved_places 7 (3 ∷ []) ≡ 10 ∷ []) × (moved_windows 7 (from_to 0 3 ∷ []) ≡ from_to 7 10 ∷ [])
moved = (refl, refl)

-- the count of updates is the same test everywhere
joins : JoinsTests 7 few few few
joins = record { before = λ a b le. refl; after = λ a b. (let same : 7 + b - (7 + a) ≡ b - a = omega arith in rw same refl) }

-- a window that ends at the last place of the first epoch counts as it did there
joins-forgetful : JoinsTests 7 (λ a b. b == 7 || few a b) few few → ⊥
joins-forgetful are = true≢false (are.before 4 7 (omega arith))

unreported : AreRoundsReported few (λ k. 0) 3
unreported j k some lt last over =
    let at : agree_below (λ i. few 0 i || nat_le 3 i) (λ i. true) 4 ≡ true = refl in
    elim (or_cases (few 0 j) (nat_le 3 j) (agree_below_at (λ i. few 0 i || nat_le 3 i) (λ i. true) 4 j at (omega arith))) [
      | inl kept ↦ absurd (true≢false (sym kept ∙ over))
      | inr late ↦ absurd (let third : 3 ≤ j = leb-true 3 j late in omega arith)
    ]

fewest-joined : AreFewest few (joined_reports 7 reports (λ k. 0)) 10 (3 ∷ 7 ∷ 10 ∷ []) (from_to 0 3 ∷ from_to 4 7 ∷ from_to 7 10 ∷ [])
fewest-joined =
    fewest_rounds_join 7 3 few few few reports (λ k. 0) limit joins (3 ∷ 7 ∷ []) (3 ∷ []) (from_to 0 3 ∷ from_to 4 7 ∷ []) (from_to 0 3 ∷ []) fewest
    (forced_rounds_are_fewest few (λ k. 0) 3 limit unreported)
