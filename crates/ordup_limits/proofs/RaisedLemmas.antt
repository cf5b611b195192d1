-- Totals that are raised by the changes of updates.
use Rattle.std.proofs.Common.{◌≡◌, ℕ, zero, suc, ◌+◌, ◌-◌, ◌*◌, ◌<◌, ◌≤◌, false, List, []}
use Rattle.std.proofs.Common.{length, get_or, arith, refl, ◌∙◌, inl, inr}
use Rattle.std.specs.Prelude.{All}
use Rattle.std.proofs.lemmas.Bool.{cases_eq, cases_lt, eq-eqb, ne_eqb, lt-ltb, le-ltb}
use Rattle.std.proofs.Math.ListN.{set}
use Rattle.std.proofs.lemmas.Grind.{get_or-set_at}
use Rattle.std.proofs.lemmas.List.{get_or-set_other}
use Rattle.ordup_objects.specs.Serial.{History, serial, IsLegalHistory}
use Rattle.ordup_objects.specs.Sizes.{most_objects, greatest_weight}
use Rattle.ordup_objects.specs.Sums.{sum_from}
use Rattle.ordup_objects.specs.Moves.{moves_of}
use Rattle.ordup_objects.proofs.SumLemmas.{sum_from-same, sum_from-constant, sum_from-few}
use Rattle.ordup_log.specs.Groups.{GroupList, IsGroup}
use Rattle.ordup_log.specs.declared.scope.Scope.TheVariants.{Count}
use Rattle.ordup_limits.specs.declared.limit.Limit.{Limit}
use Rattle.ordup_limits.specs.Limits.{Limits, AreScopesKnown}
use Rattle.ordup_limits.specs.Sizes.{most_limits, greatest_amount}
use Rattle.ordup_limits.specs.Masks.{counts_on, has_bit, AreMasks}
use Rattle.ordup_limits.specs.Totals.{weighed, weight_where, AreAllowed, AreAtMost, AreRaised, AreTotals, HaveTotalAt}
use Rattle.ordup_limits.proofs.TotalLemmas.{weight_of-none, weight_of-same, moves-known, weight_where-few, weighed-more, sum_from-next, sum-one}

-- a mask tells whether an object's changes count on a limit
counts_at : (groups : GroupList) (limits : Limits) (masks : List ℕ) → length limits ≤ most_limits → AreMasks groups limits masks
    → (x i : ℕ) (d : Limit) → x < most_objects → i < length limits
    → has_bit masks i x ≡ counts_on groups (get_or limits i d).scope x
counts_at groups limits masks few masked x i d below lt =
    masked x i d below (omega arith) ∙ rw (lt-ltb i (length limits) lt) refl

-- what the changes that have the bits of a limit weigh is what the updates weigh on its scope
raised-weight : (h : History) (groups : GroupList) (limits : Limits) (masks : List ℕ) (a b : ℕ)
    → IsLegalHistory h → All (λ g. IsGroup g.1) groups → AreScopesKnown (length h.start) groups limits
    → length h.start ≤ most_objects → length limits ≤ most_limits → AreMasks groups limits masks → a ≤ b → b ≤ length h.sets
    → (i : ℕ) (d : Limit) → i < length limits
    → weighed h groups (get_or limits i d).scope a + sum_from (weight_where (has_bit masks i) h) a (b - a)
    ≡ weighed h groups (get_or limits i d).scope b
raised-weight h groups limits masks a b legal are known objects most masked le last i d lt =
    let s = (get_or limits i d).scope in
    let same : sum_from (weight_where (has_bit masks i) h) a (b - a) ≡ sum_from (weight_where (counts_on groups s) h) a (b - a) =
    sum_from-same _ _ a (b - a)
    (λ j below. let moves = moves_of (serial h j) (get_or h.sets j []) in
    weight_of-same (has_bit masks i) (counts_on groups s) moves
    (λ k e at. counts_at groups limits masks most masked (get_or moves k e).object i d
    (let there = moves-known h legal j (omega arith) k e at in omega (arith, there)) lt)) in
    let more = weighed-more h legal groups are s (known i d lt) a b le last in
    omega (arith, more, same)

-- and nothing where there is no limit
raised-none : (h : History) (groups : GroupList) (limits : Limits) (masks : List ℕ) (a b : ℕ)
    → IsLegalHistory h → length h.start ≤ most_objects → AreMasks groups limits masks → a ≤ b → b ≤ length h.sets
    → (i : ℕ) → length limits ≤ i → i < most_limits → sum_from (weight_where (has_bit masks i) h) a (b - a) ≡ 0
raised-none h groups limits masks a b legal objects masked le last i past few =
    let no : (x : ℕ) → x < most_objects → has_bit masks i x ≡ false =
    λ x below. masked x i (record { scope = Count; amount = 0 }) below few ∙ rw (le-ltb i (length limits) past) refl in
    omega (
      arith,
      sum_from-same (weight_where (has_bit masks i) h) (λ j. 0) a (b - a)
          (λ j below. let moves = moves_of (serial h j) (get_or h.sets j []) in
          weight_of-same (has_bit masks i) (λ z. false) moves
          (λ k e at. no (get_or moves k e).object (let there = moves-known h legal j (omega arith) k e at in omega (arith, there)))
          ∙ weight_of-none moves),
      sum_from-constant 0 a (b - a),
    )

-- ---- totals that are raised

-- one total is another one
pub HaveTotalAt-set : (totals : List ℕ) (i total : ℕ) → i < length totals → HaveTotalAt i total totals (set totals i total)
HaveTotalAt-set totals i total lt k = elim (cases_eq k i) [
  | inl here ↦ rw (eq-eqb k i here) (get_or-set_at totals i k total 0 here lt)
  | inr other ↦ rw (ne_eqb k i other) (get_or-set_other totals i k total 0 other)
]

-- no update
pub AreRaised-none : (h : History) (masks : List ℕ) (a : ℕ) (totals : List ℕ) → AreRaised h masks a a totals totals
AreRaised-none h masks a totals =
    let none : a - a ≡ 0 = omega arith in
    record { each = λ i lt. rw none (omega arith); others = λ i past. refl }

-- one update, by its changes
pub AreRaised-one : (h : History) (masks : List ℕ) (place : ℕ) (old new : List ℕ)
    → ((i : ℕ) → i < most_limits → get_or new i 0 ≡ get_or old i 0 + weight_where (has_bit masks i) h place)
    → ((i : ℕ) → most_limits ≤ i → get_or new i 0 ≡ get_or old i 0)
    → AreRaised h masks place (place + 1) old new
AreRaised-one h masks place old new each others = record {
  each = λ i lt. (let one : place + 1 - place ≡ suc zero = omega arith in
      omega (arith, each i lt, sum-one (weight_where (has_bit masks i) h) place (place + 1 - place) one));
  others = others;
}

-- one update more
pub AreRaised-next : (h : History) (masks : List ℕ) (a b : ℕ) (old now new : List ℕ) → a ≤ b → AreRaised h masks a b old now
    → AreRaised h masks b (b + 1) now new
    → AreRaised h masks a (b + 1) old new
AreRaised-next h masks a b old now new le before next = record {
  each = λ i lt. (let one : b + 1 - b ≡ suc zero = omega arith in
      let f = weight_where (has_bit masks i) h in
      omega (arith, next.each i lt, before.each i lt, sum_from-next f a b le, sum-one f b (b + 1 - b) one));
  others = λ i past. next.others i past ∙ before.others i past;
}

-- they are higher by no more than the updates may weigh
pub AreRaised-few : (h : History) → IsLegalHistory h → (masks : List ℕ) (a b n : ℕ) (old new : List ℕ) → a ≤ b → b ≤ length h.sets
    → AreRaised h masks a b old new → AreAtMost n old → (i : ℕ)
    → get_or new i 0 ≤ n + greatest_weight * (b - a)
AreRaised-few h legal masks a b n old new le last raised few i = elim (cases_lt i most_limits) [
  | inl lt ↦ omega (
    arith,
    raised.each i lt,
    few i,
    sum_from-few (weight_where (has_bit masks i) h) greatest_weight a (b - a)
        (λ j below. weight_where-few h legal (has_bit masks i) j (omega arith)),
  )
  | inr past ↦ omega (arith, raised.others i past, few i)
]

-- totals of limits that are raised by the changes that have the bits of their masks
pub AreTotals-raised : {h : History} {groups : GroupList} {limits : Limits} (masks : List ℕ) {old new : List ℕ} {a b : ℕ}
    → IsLegalHistory h → All (λ g. IsGroup g.1) groups → AreScopesKnown (length h.start) groups limits
    → length h.start ≤ most_objects → length limits ≤ most_limits → AreMasks groups limits masks → a ≤ b → b ≤ length h.sets
    → AreTotals h groups limits a old → AreRaised h masks a b old new
    → AreTotals h groups limits b new
AreTotals-raised {h} {groups} {limits} masks {old = old} {new = new} {a = a} {b = b} legal are known objects most masked le last before raised =
    record {
      few = λ i. omega (arith, AreRaised-few h legal masks a b (greatest_weight * a) old new le last raised before.few i);
      none = λ i past. elim (cases_lt i most_limits) [
        | inl small ↦ omega (
          arith,
          raised.each i small,
          before.none i past,
          raised-none h groups limits masks a b legal objects masked le last i past small,
        )
        | inr beyond ↦ raised.others i beyond ∙ before.none i past
      ];
      each = λ i d lt. (let first = before.each i d lt in
          let more = raised-weight h groups limits masks a b legal are known objects most masked le last i d lt in
          let now = raised.each i (omega arith) in
          omega (arith, now, first, more));
    }

-- and what is allowed
pub AreAllowed-raised : {h : History} {groups : GroupList} {limits : Limits} (masks : List ℕ) {old new : List ℕ} {a b : ℕ}
    → IsLegalHistory h → All (λ g. IsGroup g.1) groups → AreScopesKnown (length h.start) groups limits
    → length h.start ≤ most_objects → length limits ≤ most_limits → AreMasks groups limits masks → a ≤ b → b ≤ length h.sets
    → AreAllowed h groups limits a old → AreRaised h masks a b old new
    → AreAllowed h groups limits b new
AreAllowed-raised {h} {groups} {limits} masks {old = old} {new = new} {a = a} {b = b} legal are known objects most masked le last before raised =
    record {
      few = λ i. omega (arith, AreRaised-few h legal masks a b (greatest_amount + greatest_weight * a) old new le last raised before.few i);
      each = λ i d lt. (let first = before.each i d lt in
          let more = raised-weight h groups limits masks a b legal are known objects most masked le last i d lt in
          let now = raised.each i (omega arith) in
          omega (arith, now, first, more));
    }
