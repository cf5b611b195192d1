-- What changes weigh on the scopes of limits.
use Rattle.std.proofs.Common.{◌≡◌, ℕ, zero, suc, ◌+◌, ◌-◌, ◌<◌, ◌≤◌, Bool, true, false, nat_eq, List, [], ◌∷◌}
use Rattle.std.proofs.Common.{length, get_or, replicate, sum, sum_by, drop, drop-cons, add-one, arith, refl, sym, ap, ◌∙◌, inl, inr}
use Rattle.std.specs.Prelude.{◌==◌, All}
use Rattle.std.specs.List.{list_any}
use Rattle.std.proofs.lemmas.Bool.{cases_Bool, cases_eq, cases_lt, or_parts, eq-eqb, ne_eqb, eqb-true}
use Rattle.std.proofs.Math.Nat.{min-le_right}
use Rattle.std.proofs.lemmas.List.Sums.{sum_by-cons}
use Rattle.ordup_objects.specs.declared.change.Change.{Change}
use Rattle.ordup_objects.specs.declared.moved.Moved.{Moved}
use Rattle.ordup_objects.specs.Repeats.{repeats}
use Rattle.ordup_objects.specs.Sets.{are_of_one_object}
use Rattle.ordup_objects.specs.Serial.{History, serial, IsLegalHistory}
use Rattle.ordup_objects.specs.Sizes.{greatest_distance, greatest_weight}
use Rattle.ordup_objects.specs.States.{State}
use Rattle.ordup_objects.specs.Sums.{sum_from}
use Rattle.ordup_objects.specs.Weights.{object_weight, distance_by, distances_of}
use Rattle.ordup_objects.specs.Moves.{moves_of}
use Rattle.ordup_objects.specs.Moves.{moved_by as move_by}
use Rattle.ordup_objects.proofs.SetLemmas.{moved_by, distance_beside-distances_of}
use Rattle.ordup_objects.proofs.SumLemmas.{sum_from-add, sum_from-same, sum_from-constant}
use Rattle.ordup_log.specs.Groups.{GroupList, IsGroup, members_at}
use Rattle.ordup_log.specs.Spans.{weight, span, IsScopeKnown}
use Rattle.ordup_log.specs.declared.scope.Scope.{Scope}
use Rattle.ordup_log.specs.declared.scope.Scope.TheVariants.{Object, Group, All as Everything, Count}
use Rattle.std.proofs.lemmas.List.Elements.{All-nil, All-cons}
use Rattle.ordup_log.proofs.MovingLemmas.{known-moves}
use Rattle.ordup_log.proofs.SpanLemmas.{span-count}
use Rattle.ordup_log.proofs.WeightLemmas.{distance_beside-at, distances-few, sum-at, sum-few}
use Rattle.ordup_limits.specs.declared.limit.Limit.{Limit}
use Rattle.ordup_limits.specs.Limits.{Limits, is_same_scope}
use Rattle.ordup_limits.specs.Sizes.{most_limits, greatest_amount}
use Rattle.ordup_limits.specs.Masks.{counts_on}
use Rattle.ordup_limits.specs.Totals.{weighed, kept_amount, share, weight_of, weight_where, AreAllowed, AreTotals}

-- ---- changes that pass a test

eqb-sym : (a b : ℕ) → (a == b) ≡ (b == a)
eqb-sym a b = elim (cases_eq a b) [
  | inl same ↦ rw (eq-eqb a b same, eq-eqb b a (sym same)) refl
  | inr other ↦ rw (ne_eqb a b other, ne_eqb b a (λ e. other (sym e))) refl
]

-- tests that agree on the objects of moves
pub weight_of-same : (p q : ℕ → Bool) (ds : List Moved)
    → ((k : ℕ) (d : Moved) → k < length ds → p (get_or ds k d).object ≡ q (get_or ds k d).object)
    → weight_of p ds ≡ weight_of q ds
weight_of-same p q [] same = refl
weight_of-same p q (d ∷ ds) same =
    omega (
      arith,
      ap (λ b. share b d.distance) (same 0 d (omega arith)),
      weight_of-same p q ds (λ k e lt. same (suc k) e (omega arith)),
    )

-- a test that none passes
pub weight_of-none : (ds : List Moved) → weight_of (λ z. false) ds ≡ 0
weight_of-none [] = refl
weight_of-none (d ∷ ds) = omega (arith, weight_of-none ds)

-- a test that is either of two
weight_of-either : (p q r : ℕ → Bool) (ds : List Moved)
    → ((z d : ℕ) → share (r z) d ≡ share (p z) d + share (q z) d)
    → weight_of r ds ≡ weight_of p ds + weight_of q ds
weight_of-either p q r [] each = refl
weight_of-either p q r (d ∷ ds) each = omega (arith, each d.object d.distance, weight_of-either p q r ds each)

-- ---- the changes of a message set

-- no more than all of them
weight_of-most : (p : ℕ → Bool) (v : State) (m : List Change) → weight_of p (moves_of v m) ≤ sum (distances_of v m)
weight_of-most p v [] = omega arith
weight_of-most p v (c ∷ m) =
    let rest : weight_of p (moves_of v m) ≤ sum (distances_of v m) = weight_of-most p v m in
    let more = sum_by-cons (λ (x : ℕ). x) (distance_by v c) (distances_of v m) in
    elim (cases_Bool (p c.object)) [
      | inl counts ↦ rw counts (omega (arith, rest, more))
      | inr other ↦ rw other (omega (arith, rest, more))
    ]

-- of one object, where none of them is of it
weight_of-absent : (v : State) (m : List Change) (x : ℕ) → list_any (λ c. c.object == x) m ≡ false
    → weight_of (λ z. x == z) (moves_of v m) ≡ 0
weight_of-absent v [] x none = refl
weight_of-absent v (c ∷ m) x none =
    let both : (c.object == x) ≡ false × list_any (λ d. d.object == x) m ≡ false = or_parts _ _ none in
    let other : (x == c.object) ≡ false = eqb-sym x c.object ∙ both.0 in
    rw other (omega (arith, weight_of-absent v m x both.1))

-- of one object
weight_of-object : (v : State) (m : List Change) (x : ℕ) → repeats are_of_one_object m ≡ false
    → weight_of (λ z. x == z) (moves_of v m) ≡ moved_by v m x
weight_of-object v [] x distinct = refl
weight_of-object v (c ∷ m) x distinct =
    let apart : list_any (λ d. d.object == c.object) m ≡ false × repeats are_of_one_object m ≡ false = or_parts _ _ distinct in
    elim (cases_Bool (c.object == x)) [
      | inl e ↦ (let here : c.object ≡ x = eqb-true c.object x e in
          let back : (x == c.object) ≡ true = eqb-sym x c.object ∙ e in
          let none : list_any (λ d. d.object == x) m ≡ false = rw here at apart.0 in
          rw (e, back) (omega (arith, weight_of-absent v m x none)))
      | inr e ↦ (let back : (x == c.object) ≡ false = eqb-sym x c.object ∙ e in
          rw (e, back) (omega (arith, weight_of-object v m x apart.1)))
    ]

-- a number is one of these, asked in two ways
any-sym : (x : ℕ) (members : List ℕ) → list_any (nat_eq x) members ≡ false → list_any (λ y. y == x) members ≡ false
any-sym x [] none = refl
any-sym x (y ∷ members) none =
    let both : (x == y) ≡ false × list_any (nat_eq x) members ≡ false = or_parts _ _ none in
    let other : (y == x) ≡ false = eqb-sym y x ∙ both.0 in
    rw other (any-sym x members both.1)

-- of distinct members
weight_of-members : (v : State) (m : List Change) (members : List ℕ) → repeats are_of_one_object m ≡ false
    → repeats nat_eq members ≡ false → weight_of (λ z. list_any (λ y. y == z) members) (moves_of v m) ≡ sum_by (moved_by v m) members
weight_of-members v m [] distinct apart = weight_of-none (moves_of v m)
weight_of-members v m (x ∷ members) distinct apart =
    let parts : list_any (nat_eq x) members ≡ false × repeats nat_eq members ≡ false = or_parts _ _ apart in
    let either : (z d : ℕ) → share (list_any (λ y. y == z) (x ∷ members)) d ≡ share (x == z) d + share (list_any (λ y. y == z) members) d =
    λ z d. elim (cases_Bool (x == z)) [
      | inl e ↦ (let here : x ≡ z = eqb-true x z e in
          let none : list_any (λ y. y == z) members ≡ false = rw here at (any-sym x members parts.0) in
          rw (e, none) (omega arith))
      | inr e ↦ rw e (omega arith)
    ] in
    omega (
      arith,
      weight_of-either (λ z. x == z) (λ z. list_any (λ y. y == z) members) (λ z. list_any (λ y. y == z) (x ∷ members)) (moves_of v m)
          either,
      weight_of-object v m x distinct,
      weight_of-members v m members distinct parts.1,
      sum_by-cons (moved_by v m) x members,
    )

-- of all
weight_of-all : (v : State) (m : List Change) → weight_of (λ z. true) (moves_of v m) ≡ sum (distances_of v m)
weight_of-all v [] = refl
weight_of-all v (c ∷ m) =
    omega (arith, weight_of-all v m, sum_by-cons (λ (x : ℕ). x) (distance_by v c) (distances_of v m))

-- ---- updates

-- an update's changes weigh what it weighs on an object
weight_where-object : (h : History) → IsLegalHistory h → (x j : ℕ) → j < length h.sets
    → weight_where (λ z. x == z) h j ≡ object_weight h x j
weight_where-object h legal x j lt =
    weight_of-object (serial h j) (get_or h.sets j []) x (legal.sets j [] lt).distinct
    ∙ sym (distance_beside-distances_of (serial h j) (get_or h.sets j []) x) ∙ distance_beside-at h legal x j lt

-- those of the members on a group
weight_where-group : (h : History) → IsLegalHistory h → (members : List ℕ) (j : ℕ) → repeats nat_eq members ≡ false
    → j < length h.sets → weight_where (λ z. list_any (λ y. y == z) members) h j ≡ sum_by (λ x. object_weight h x j) members
weight_where-group h legal members j apart lt =
    let m = get_or h.sets j [] in
    let each : (x : ℕ) → moved_by (serial h j) m x ≡ object_weight h x j =
    λ x. sym (distance_beside-distances_of (serial h j) m x) ∙ distance_beside-at h legal x j lt in
    weight_of-members (serial h j) m members (legal.sets j [] lt).distinct apart ∙ ap (λ w. sum_by w members) (λ i x. each x i)

-- no more than an update may weigh
pub weight_where-few : (h : History) → IsLegalHistory h → (p : ℕ → Bool) (j : ℕ) → j < length h.sets
    → weight_where p h j ≤ greatest_weight
weight_where-few h legal p j lt =
    omega (arith, weight_of-most p (serial h j) (get_or h.sets j []), sum-few h legal j lt)

-- distances that are small are those of small moves
few-moves : (v : State) (m : List Change) → All (λ d. d ≤ greatest_distance) (distances_of v m)
    → All (λ (d : Moved). d.distance ≤ greatest_distance) (moves_of v m)
few-moves v [] few = All-nil (λ (d : Moved). d.distance ≤ greatest_distance)
few-moves v (c ∷ m) few =
    All-cons (λ (d : Moved). d.distance ≤ greatest_distance) (move_by v c) (moves_of v m) (few 0 0 (omega arith))
    (few-moves v m (λ k d lt. few (suc k) d (omega arith)))

-- the moves of an update are on objects that are there
pub moves-known : (h : History) → IsLegalHistory h → (j : ℕ) → j < length h.sets
    → All (λ (d : Moved). d.object < length h.start) (moves_of (serial h j) (get_or h.sets j []))
moves-known h legal j lt =
    known-moves (serial h j) (get_or h.sets j []) (length h.start) (λ k c few. (legal.known j [] lt k c few).0)

module _ (h : History) (legal : IsLegalHistory h) (j i : ℕ) (ds : List Moved) (d : Moved) (lt : j < length h.sets)
    (are : ds ≡ moves_of (serial h j) (get_or h.sets j [])) (below : i < length ds) (at : d ≡ get_or ds i d) where
  -- a move of an update is small
  pub distance-few : d.distance ≤ greatest_distance
  distance-few =
      rw (at, are) (few-moves (serial h j) (get_or h.sets j []) (distances-few h legal j lt) i d (rw are at below))

  -- and its object is there
  pub object-known : d.object < length h.start
  object-known =
      rw (at, are) (moves-known h legal j lt i d (rw are at below))

-- ---- one after the other

-- one move less is left
pub weight_of-next : (p : ℕ → Bool) (ds : List Moved) (i : ℕ) (d : Moved) → i < length ds → d ≡ get_or ds i d
    → weight_of p (drop i ds) ≡ share (p d.object) d.distance + weight_of p (drop (i + 1) ds)
weight_of-next p ds i d lt at =
    let e : drop i ds ≡ d ∷ drop (i + 1) ds = rw add-one (drop-cons ds i d lt) ∙ ap (λ x. x ∷ drop (i + 1) ds) (sym at) in
    rw e refl

-- one place more
pub sum_from-next : (f : ℕ → ℕ) (a b : ℕ) → a ≤ b → sum_from f a (b + 1 - a) ≡ sum_from f a (b - a) + f b
sum_from-next f a b le =
    let e : b + 1 - a ≡ suc (b - a) = omega arith in
    let g : a + (b - a) ≡ b = omega arith in
    rw (e, g) refl

-- ---- totals

-- the span to a place and the one from it on
pub span-from_start : (h : History) (groups : GroupList) (s : Scope) (a b : ℕ) → a ≤ b
    → span h groups s 0 a + sum_from (weight h groups s) a (b - a) ≡ span h groups s 0 b
span-from_start h groups s a b le =
    let all : b - 0 ≡ a + (b - a) = omega arith in
    let first : a - 0 ≡ a = omega arith in
    let start : 0 + a ≡ a = omega arith in
    omega (
      arith,
      ap (sum_from (weight h groups s) 0) all,
      ap (sum_from (weight h groups s) 0) first,
      sum_from-add (weight h groups s) 0 a (b - a),
      ap (λ k. sum_from (weight h groups s) k (b - a)) start,
    )

-- the same by the changes that count on a scope, where those of each update weigh what it weighs
span-counted : (h : History) (groups : GroupList) (s : Scope) (a b : ℕ) → a ≤ b
    → ((j : ℕ) → j < a + (b - a) → weight_where (counts_on groups s) h j ≡ weight h groups s j)
    → span h groups s 0 a + sum_from (weight_where (counts_on groups s) h) a (b - a) ≡ span h groups s 0 b
span-counted h groups s a b le same =
    omega (
      arith,
      span-from_start h groups s a b le,
      sum_from-same (weight_where (counts_on groups s) h) (weight h groups s) a (b - a) same,
    )

-- the changes of the updates after a place that count on a scope
pub weighed-more : (h : History) → IsLegalHistory h → (groups : GroupList) → All (λ g. IsGroup g.1) groups → (s : Scope)
    → IsScopeKnown (length h.start) groups s → (a b : ℕ) → a ≤ b → b ≤ length h.sets
    → weighed h groups s a + sum_from (weight_where (counts_on groups s) h) a (b - a) ≡ weighed h groups s b
weighed-more h legal groups are (Object x) known a b le last =
    span-counted h groups (Object x) a b le (λ j lt. weight_where-object h legal x j (omega arith))
weighed-more h legal groups are (Group g) known a b le last =
    span-counted h groups (Group g) a b le
    (λ j lt. weight_where-group h legal (members_at groups g) j (are g ([], []) known).distinct (omega arith))
weighed-more h legal groups are Everything known a b le last =
    span-counted h groups Everything a b le
    (λ j lt. weight_of-all (serial h j) (get_or h.sets j []) ∙ sum-at h legal j (omega arith))
weighed-more h legal groups are Count known a b le last =
    omega (
      arith,
      sum_from-same (weight_where (counts_on groups Count) h) (λ j. 0) a (b - a)
          (λ j lt. weight_of-none (moves_of (serial h j) (get_or h.sets j []))),
      sum_from-constant 0 a (b - a),
    )

-- one update
pub sum-one : (f : ℕ → ℕ) (j n : ℕ) → n ≡ suc zero → sum_from f j n ≡ f j
sum-one f j n one = let same : j + 0 ≡ j = omega arith in rw one (omega (arith, ap f same))

-- what one update more weighs: its changes, and itself
pub span-one : (h : History) → IsLegalHistory h → (groups : GroupList) → All (λ g. IsGroup g.1) groups → (s : Scope)
    → IsScopeKnown (length h.start) groups s → (j : ℕ) → j < length h.sets
    → span h groups s 0 j + share (is_same_scope Count s) 1 + weight_where (counts_on groups s) h j ≡ span h groups s 0 (j + 1)
span-one h legal groups are s known j last =
    let f = weight_where (counts_on groups s) h in
    let one : j + 1 - j ≡ suc zero = omega arith in
    span-one-of h groups s j
    (omega (arith, weighed-more h legal groups are s known j (j + 1) (omega arith) (omega (arith, last)), sum-one f j (j + 1 - j) one))
  where
    span-one-of : (h : History) (groups : GroupList) (s : Scope) (j : ℕ)
        → weighed h groups s j + weight_where (counts_on groups s) h j ≡ weighed h groups s (j + 1)
        → span h groups s 0 j + share (is_same_scope Count s) 1 + weight_where (counts_on groups s) h j ≡ span h groups s 0 (j + 1)
    span-one-of h groups (Object x) j e = omega (arith, e)
    span-one-of h groups (Group g) j e = omega (arith, e)
    span-one-of h groups Everything j e = omega (arith, e)
    span-one-of h groups Count j e = omega (arith, e, span-count h groups 0 j, span-count h groups 0 (j + 1))

-- totals with the amounts of the limits
pub AreAllowed-amounts : (h : History) (groups : GroupList) (limits : Limits) (place : ℕ) (old new : List ℕ)
    → AreTotals h groups limits place old
    → ((i : ℕ) (d : Limit) → i < length limits → get_or new i 0 ≡ get_or old i 0 + kept_amount (get_or limits i d))
    → ((i : ℕ) → length limits ≤ i → get_or new i 0 ≡ get_or old i 0)
    → AreAllowed h groups limits place new
AreAllowed-amounts h groups limits place old new are raised rest = record {
  few = λ i. elim (cases_lt i (length limits)) [
    | inl lt ↦ omega (
      arith,
      raised i (record { scope = Count; amount = 0 }) lt,
      are.few i,
      min-le_right (get_or limits i (record { scope = Count; amount = 0 })).amount greatest_amount,
    )
    | inr past ↦ omega (arith, rest i past, are.few i)
  ];
  each = λ i d lt. (let more = raised i d lt in let first = are.each i d lt in omega (arith, more, first));
}

-- a list of zeros has no other number
pub none_at : (n x : ℕ) → get_or (replicate {A = ℕ} n 0) x 0 ≡ 0
none_at zero x = refl
none_at (suc n) zero = refl
none_at (suc n) (suc x) = none_at n x

-- the totals of no update
weighed-start : (h : History) (groups : GroupList) (s : Scope) → weighed h groups s 0 ≡ 0
weighed-start h groups Count = refl
weighed-start h groups s = refl

pub AreTotals-start : (h : History) (groups : GroupList) (limits : Limits) → AreTotals h groups limits 0 (replicate most_limits 0)
AreTotals-start h groups limits = record {
  few = λ i. omega (arith, none_at most_limits i);
  none = λ i past. none_at most_limits i;
  each = λ i d lt. none_at most_limits i ∙ sym (weighed-start h groups (get_or limits i d).scope);
}
