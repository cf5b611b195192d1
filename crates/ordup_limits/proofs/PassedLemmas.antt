-- Masks of limits, and which limits the span that a site lags passes.
use Rattle.std.proofs.Common.{◌≡◌, ℕ, zero, suc, ◌+◌, ◌-◌, ◌*◌, ◌<◌, ◌≤◌, ◌^◌, Bool, true, false, not, List, [], ◌∷◌, length, get_or}
use Rattle.std.proofs.Common.{arith, refl, sym, ap, ◌∙◌, ◌⊎◌, inl, inr, w64}
use Rattle.std.specs.Prelude.{◌==◌, ◌||◌, ◌↔◌, if◌then◌else◌, fold, min, nat_lt, IsTrue}
use Rattle.std.specs.Int.{bit_at, trailing_zeros}
use Rattle.std.specs.List.{list_all}
use Rattle.std.proofs.lemmas.List.{get_or_default}
use Rattle.std.proofs.lemmas.List.Sums.{list_all-from_AllPass}
use Rattle.std.proofs.lemmas.Bool.{cases_Bool, cases_eq, cases_lt, eq-eqb, ne_eqb, lt-ltb, le-ltb, ltb-true, le-leb, leb-true, and_right}
use Rattle.std.proofs.lemmas.Bool.{true≢false}
use Rattle.std.proofs.lemmas.List.Folds.{list_all_at}
use Rattle.std.proofs.lemmas.Nat.Bits.{bit_at-zero, bit_at-trailing_zeros}
use Rattle.ordup_objects.specs.Serial.{History}
use Rattle.ordup_objects.specs.Sizes.{greatest_weight, most_updates}
use Rattle.ordup_log.specs.Groups.{GroupList}
use Rattle.ordup_log.specs.Spans.{span}
use Rattle.ordup_log.specs.declared.scope.Scope.{Scope}
use Rattle.ordup_log.specs.declared.scope.Scope.TheVariants.{Object, Group, All as Everything, Count}
use Rattle.ordup_log.proofs.SpanLemmas.{span-count}
use Rattle.ordup_limits.specs.declared.limit.Limit.{Limit}
use Rattle.ordup_limits.specs.LagWeights.{LagWeightsAt, HasPassed}
use Rattle.ordup_limits.specs.Limits.{Limits, keeps_limit, within}
use Rattle.ordup_limits.specs.Ledgers.{LedgerState, IsLedger, StandsFor}
use Rattle.ordup_limits.specs.PassedLimits.{no_limit, least_with, least_count, ArePassed}
use Rattle.ordup_limits.specs.Sizes.{most_limits, greatest_amount}
use Rattle.ordup_limits.specs.Totals.{kept_amount, weighed}
use Rattle.ordup_limits.proofs.LedgerLemmas.{span-difference}

-- ---- masks

-- a mask of passed weights is one still where a weight is looked at again, and no other changes
pub ArePassed-put : (over next z : ℕ) (added allowed more_added more_allowed : List ℕ) (is : Bool) → ArePassed over added allowed
    → ((i : ℕ) → i < most_limits → (bit_at next i == 1) ≡ (if i == z then is else bit_at over i == 1))
    → is ≡ nat_lt (get_or more_allowed z 0) (get_or more_added z 0)
    → ((i : ℕ) → (i ≡ z → ⊥) → get_or more_added i 0 ≡ get_or added i 0)
    → ((i : ℕ) → (i ≡ z → ⊥) → get_or more_allowed i 0 ≡ get_or allowed i 0)
    → ArePassed next more_added more_allowed
ArePassed-put over next z added allowed more_added more_allowed is are put looked same_added same_allowed i few = elim (cases_eq i z) [
  | inl here ↦ put i few ∙ rw (eq-eqb i z here) (rw here looked)
  | inr other ↦ put i few ∙ rw (ne_eqb i z other, same_added i other, same_allowed i other) (are i few)
]

-- nor where a weight grows and is still allowed
pub ArePassed-kept : (over z : ℕ) (added allowed more_added : List ℕ) → ArePassed over added allowed
    → ((i : ℕ) → (i ≡ z → ⊥) → get_or more_added i 0 ≡ get_or added i 0) → get_or added z 0 ≤ get_or more_added z 0
    → get_or more_added z 0 ≤ get_or allowed z 0
    → ArePassed over more_added allowed
ArePassed-kept over z added allowed more_added are same grows let_in i few = elim (cases_eq i z) [
  | inl here ↦ are i few ∙ rw here (le-ltb (get_or allowed z 0) (get_or added z 0) (omega (arith, grows, let_in))
      ∙ sym (le-ltb (get_or allowed z 0) (get_or more_added z 0) let_in))
  | inr other ↦ are i few ∙ ap (nat_lt (get_or allowed i 0)) (sym (same i other))
]

-- with nothing added no weight is passed
pub ArePassed-none : (added allowed : List ℕ) → ((i : ℕ) → get_or added i 0 ≡ 0) → ArePassed 0 added allowed
ArePassed-none added allowed none i few =
    let not_more : nat_lt (get_or allowed i 0) (get_or added i 0) ≡ false =
    le-ltb (get_or allowed i 0) (get_or added i 0) (omega (arith, none i)) in
    rw (bit_at-zero i, not_more) refl

-- where more is allowed, what was not passed is not passed
pub kept-allowed : (over : ℕ) (added allowed more_allowed : List ℕ) → ArePassed over added allowed
    → ((i : ℕ) → i < most_limits → get_or allowed i 0 ≤ get_or more_allowed i 0)
    → (i : ℕ) → i < most_limits → (bit_at over i == 1) ≡ false → get_or added i 0 ≤ get_or more_allowed i 0
kept-allowed over added allowed more_allowed are more i few out = elim (cases_lt (get_or allowed i 0) (get_or added i 0)) [
  | inl lt ↦ absurd (true≢false (sym (are i few ∙ lt-ltb (get_or allowed i 0) (get_or added i 0) lt) ∙ out))
  | inr le ↦ omega (arith, le, more i few)
]

-- ---- the limit on the count

least_with-less : (n : ℕ) (s : Scope) (amount : ℕ) → least_with n s amount ≤ n
least_with-less n Count amount = omega arith
least_with-less n (Object x) amount = omega arith
least_with-less n (Group g) amount = omega arith
least_with-less n Everything amount = omega arith

-- the least amount is no more than what it begins with
least-less : (n : ℕ) (limits : Limits) → fold (λ n l. least_with n l.scope l.amount) n limits ≤ n
least-less n [] = omega arith
least-less n (l ∷ limits) =
    omega (arith, least-less (least_with n l.scope l.amount) limits, least_with-less n l.scope l.amount)

-- nor more than each amount on the count
least-at : (n : ℕ) (limits : Limits) (i : ℕ) (d : Limit) → i < length limits → (get_or limits i d).scope ≡ Count
    → fold (λ n l. least_with n l.scope l.amount) n limits ≤ (get_or limits i d).amount
least-at n [] i d lt on = absurd (omega (arith, lt))
least-at n (l ∷ limits) zero d lt on =
    let first : least_with n l.scope l.amount ≤ l.amount = rw on (omega arith) in
    omega (arith, least-less (least_with n l.scope l.amount) limits, first)
least-at n (l ∷ limits) (suc i) d lt on = least-at (least_with n l.scope l.amount) limits i d (omega (arith, lt)) on

-- below what it begins with only an amount on the count is
least_with-on : (n u : ℕ) (s : Scope) (amount : ℕ) → u ≤ n → least_with n s amount < u → s ≡ Count × amount < u
least_with-on n u Count amount most lt = (refl, omega (arith, most, lt))
least_with-on n u (Object x) amount most lt = absurd (omega (arith, most, lt))
least_with-on n u (Group g) amount most lt = absurd (omega (arith, most, lt))
least_with-on n u Everything amount most lt = absurd (omega (arith, most, lt))

-- so what is above the least amount passes a limit, where a test fails on each limit on the count with a lesser amount
least-passed : (test : Limit → Bool) (u n : ℕ) (limits : Limits) → ((l : Limit) → l.scope ≡ Count → l.amount < u → test l ≡ false)
    → u ≤ n → fold (λ n l. least_with n l.scope l.amount) n limits < u → list_all test limits ≡ false
least-passed test u n [] fails most above = absurd (omega (arith, most, above))
least-passed test u n (l ∷ limits) fails most above = elim (cases_lt (least_with n l.scope l.amount) u) [
  | inl lt ↦ (let on = least_with-on n u l.scope l.amount most lt in
      rw (fails l on.0 on.1) refl)
  | inr le ↦ and_right (test l) (list_all test limits) (least-passed test u (least_with n l.scope l.amount) limits fails le above)
]

-- ---- the span between the places

-- a span that is heavier than an amount does not keep the limit
pub keeps-false : (h : History) (groups : GroupList) (a b : ℕ) (l : Limit) → l.amount < span h groups l.scope a b
    → keeps_limit h groups a b l ≡ false
keeps-false h groups a b l lt = elim (cases_Bool (keeps_limit h groups a b l)) [
  | inl kept ↦ absurd (omega (arith, lt, leb-true (span h groups l.scope a b) l.amount kept))
  | inr not_kept ↦ not_kept
]

-- a span weighs no more than the amount where what is added is allowed
span-allowed : (h : History) (groups : GroupList) (s : Scope) (a b amount added allowed : ℕ) → added ≡ weighed h groups s b
    → allowed ≡ min amount greatest_amount + weighed h groups s a → (s ≡ Count → b - a ≤ amount) → added ≤ allowed
    → span h groups s a b ≤ amount
span-allowed h groups Count a b amount added allowed up down on le = omega (arith, on refl, span-count h groups a b)
span-allowed h groups s a b amount added allowed up down on le = omega (arith, up, down, le, span-difference h groups s a b)

-- and more where it is not
span-passed : (h : History) (groups : GroupList) (s : Scope) (a b amount added allowed : ℕ) → added ≡ weighed h groups s b
    → allowed ≡ min amount greatest_amount + weighed h groups s a → added ≤ greatest_weight * b → b ≤ most_updates → allowed < added
    → amount < span h groups s a b
span-passed h groups Count a b amount added allowed up down few last lt = absurd (omega (arith, up, lt))
span-passed h groups s a b amount added allowed up down few last lt =
    omega (arith, up, down, few, last, lt, span-difference h groups s a b)

-- a scope that is not the count
abbrev pub IsOfValues : Scope → Type 0
IsOfValues s = ((x : ℕ) × (s ≡ Object x)) ⊎ (((g : ℕ) × (s ≡ Group g)) ⊎ (s ≡ Everything))

-- what the updates up to a place weigh on it is a span
weighed-span : (h : History) (groups : GroupList) (s : Scope) (place : ℕ) → IsOfValues s
    → weighed h groups s place ≡ span h groups s 0 place
weighed-span h groups s place is = elim is [
  | inl object ↦ rw object.1 refl
  | inr rest ↦ elim rest [
    | inl group ↦ rw group.1 refl
    | inr all ↦ rw all refl
  ]
]

-- what is added, but for what is allowed beyond the amount, is what the span weighs
span-left : (h : History) (groups : GroupList) (s : Scope) (a b amount added allowed : ℕ) → IsOfValues s
    → added ≡ weighed h groups s b → allowed ≡ min amount greatest_amount + weighed h groups s a
    → added - (allowed - min amount greatest_amount) ≡ span h groups s a b
span-left h groups s a b amount added allowed is up down =
    omega (arith, up, down, weighed-span h groups s a is, weighed-span h groups s b is, span-difference h groups s a b)

-- the weight that a ledger has for a limit that is not on the count
pub weight-kept : (l : LedgerState) (i : ℕ) (limit : Limit) → i < length l.limits → limit ≡ get_or l.limits i limit
    → IsOfValues limit.scope
    → (h : History) (groups : GroupList) (d : Limit) → StandsFor l h groups
    → get_or l.added i 0 - (get_or l.allowed i 0 - kept_amount limit) ≡ span h groups (get_or l.limits i d).scope l.reported l.extended
weight-kept l i limit lt at values h groups d stands =
    let same : limit ≡ get_or l.limits i d = at ∙ get_or_default l.limits i limit d lt in
    rw (← same) (span-left h groups limit.scope l.reported l.extended limit.amount (get_or l.added i 0) (get_or l.allowed i 0) values
    (rw (← same) at (stands.added.each i d lt)) (rw (← same) at (stands.allowed.each i d lt)))

-- and that for one on the count
pub weight-count : (l : LedgerState) (i : ℕ) (limit : Limit) (n : ℕ) → i < length l.limits → limit ≡ get_or l.limits i limit
    → limit.scope ≡ Count → n ≡ l.extended - l.reported
    → (h : History) (groups : GroupList) (d : Limit) → StandsFor l h groups
    → n ≡ span h groups (get_or l.limits i d).scope l.reported l.extended
weight-count l i limit n lt at on is h groups d stands =
    let same : limit ≡ get_or l.limits i d = at ∙ get_or_default l.limits i limit d lt in
    rw (← same, on) (is ∙ sym (span-count h groups l.reported l.extended))

-- a mask of passed weights has a bit where there is one
pub ArePassed-some : (w : LagWeightsAt) (passed : ℕ) → passed < 2 ^ 64 → ArePassed passed w.added w.allowed
    → IsTrue (not (passed == 0)) ↔ HasPassed w
ArePassed-some w passed fits are = (
  λ some. (let low = bit_at-trailing_zeros w64 passed (nonzero passed some) fits in
      let z = trailing_zeros w64 passed in
      (z, (low.0, ltb-true (get_or w.allowed z 0) (get_or w.added z 0) (sym (are z low.0) ∙ eq-eqb (bit_at passed z) 1 low.1)))),
  λ has. elim (cases_eq passed 0) [
    | inl none ↦ absurd (true≢false (sym (are has.0 has.1.0
        ∙ lt-ltb (get_or w.allowed has.0 0) (get_or w.added has.0 0) has.1.1) ∙ rw (none, bit_at-zero has.0) refl))
    | inr some ↦ rw (ne_eqb passed 0 some) refl
  ],
)
  where
    nonzero : (passed : ℕ) → not (passed == 0) ≡ true → 0 < passed
    nonzero passed some = elim (cases_eq passed 0) [
      | inl none ↦ absurd (true≢false (sym some ∙ rw (eq-eqb passed 0 none) refl))
      | inr more ↦ omega (arith, more)
    ]

-- a span passes a limit where it is of more updates than the least amount on the count, or some weight is passed
pub within-passed : (l : LedgerState) (passed : Bool) (count : ℕ) → IsLedger l → count ≡ least_count l.limits
    → (IsTrue passed ↔ HasPassed (record { reported = l.reported; extended = l.extended; added = l.added; allowed = l.allowed }))
    → (h : History) (groups : GroupList) → StandsFor l h groups
    → (passed || nat_lt count (l.extended - l.reported)) ≡ not (within h groups l.limits l.reported l.extended)
within-passed l passed count is least tells h groups stands = elim (cases_Bool passed) [
  | inr none ↦ elim (cases_lt count (l.extended - l.reported)) [
    | inl lt ↦ (let over : within h groups l.limits l.reported l.extended ≡ false =
        least-passed (keeps_limit h groups l.reported l.extended) (l.extended - l.reported) most_updates l.limits
        (λ m on less. keeps-false h groups l.reported l.extended m
        (rw on (omega (arith, less, span-count h groups l.reported l.extended)))) (omega (arith, is.last)) (rw least at lt) in
        rw (none, lt-ltb count (l.extended - l.reported) lt, over) refl)
    | inr le ↦ (let all : within h groups l.limits l.reported l.extended ≡ true =
        list_all-from_AllPass (keeps_limit h groups l.reported l.extended) l.limits
        (λ i d lt. (let m = get_or l.limits i no_limit in
        let kept : get_or l.added i 0 ≤ get_or l.allowed i 0 =
        elim (cases_lt (get_or l.allowed i 0) (get_or l.added i 0)) [
          | inl more ↦ absurd (true≢false (sym (tells.1 (i, (omega (arith, lt, is.few), more))) ∙ none))
          | inr less ↦ less
        ] in
        let weight : span h groups m.scope l.reported l.extended ≤ m.amount =
        span-allowed h groups m.scope l.reported l.extended m.amount (get_or l.added i 0) (get_or l.allowed i 0)
        (stands.added.each i no_limit lt) (stands.allowed.each i no_limit lt)
        (λ on. (let low = least-at most_updates l.limits i no_limit lt on in omega (arith, low, le, least))) kept in
        ap (keeps_limit h groups l.reported l.extended) (get_or_default l.limits i d no_limit lt)
        ∙ le-leb (span h groups m.scope l.reported l.extended) m.amount weight)) in
        rw (none, le-ltb count (l.extended - l.reported) le, all) refl)
  ]
  | inl some ↦ (let found = tells.0 some in
      let z = found.0 in
      let more : get_or l.allowed z 0 < get_or l.added z 0 = found.1.1 in
      let lt : z < length l.limits =
      elim (cases_lt z (length l.limits)) [
        | inl lt ↦ lt
        | inr past ↦ absurd (omega (arith, more, stands.added.none z past))
      ] in
      let m = get_or l.limits z no_limit in
      let over : within h groups l.limits l.reported l.extended ≡ false =
      list_all_at (keeps_limit h groups l.reported l.extended) l.limits z no_limit lt
      (keeps-false h groups l.reported l.extended m
      (span-passed h groups m.scope l.reported l.extended m.amount (get_or l.added z 0) (get_or l.allowed z 0)
      (stands.added.each z no_limit lt) (stands.allowed.each z no_limit lt) (stands.added.few z) is.last more)) in
      rw (some, over) refl)
]
