-- Spans on every scope.
use Rattle.std.proofs.Common.{◌≡◌, ℕ, zero, suc, ◌+◌, ◌-◌, ◌<◌, ◌≤◌, List, [], ◌∷◌, length, sum_by, inl, inr}
use Rattle.std.proofs.Common.{arith, refl, sym, ap, ◌∙◌}
use Rattle.std.proofs.lemmas.Bool.{cases_lt}
use Rattle.std.proofs.lemmas.List.Sums.{sum_by-cons}
use Rattle.ordup_objects.specs.declared.change.Change.{Change}
use Rattle.ordup_objects.specs.Serial.{History, with_more}
use Rattle.ordup_objects.specs.Sums.{sum_from}
use Rattle.ordup_objects.specs.Weights.{object_weight}
use Rattle.ordup_objects.proofs.SumLemmas.{sum_from-add, sum_from-same, sum_from-constant}
use Rattle.ordup_objects.proofs.SpanLemmas.{object_weight-longer}
use Rattle.ordup_log.specs.Groups.{GroupList, members_at}
use Rattle.ordup_log.specs.Spans.{weight, span, InnerSpansWeighLess, LongerHistoriesKeepSpans}
use Rattle.ordup_log.specs.declared.scope.Scope.{Scope}
use Rattle.ordup_log.specs.declared.scope.Scope.TheVariants.{Object, Group, All as Everything, Count}

-- updates that are added later leave the weights as they were
pub weight-longer : (h : History) (more : List (List Change)) (groups : GroupList) (s : Scope) (j : ℕ) → j < length h.sets
    → weight (with_more h more) groups s j ≡ weight h groups s j
weight-longer h more groups (Object x) j lt = object_weight-longer h more x j lt
weight-longer h more groups (Group g) j lt = ap (λ w. sum_by w (members_at groups g)) (λ i x. object_weight-longer h more x j lt i)
weight-longer h more groups Everything j lt = ap (λ w. sum_from w 0 (length h.start)) (λ i x. object_weight-longer h more x j lt i)
weight-longer h more groups Count j lt = refl

-- and the spans
pub span-longer : LongerHistoriesKeepSpans
span-longer h more groups s a b le = elim (cases_lt a b) [
  | inl lt ↦ sum_from-same _ _ a (b - a) (λ j below. weight-longer h more groups s j (omega arith))
  | inr ge ↦ (let none : b - a ≡ 0 = omega arith in rw none refl)
]

-- a span on the number of updates weighs how many there are
pub span-count : (h : History) (groups : GroupList) (a b : ℕ) → span h groups Count a b ≡ b - a
span-count h groups a b = omega (arith, sum_from-constant 1 a (b - a))

-- a span inside another weighs no more
pub span-inner : InnerSpansWeighLess
span-inner h groups s a b c d below above =
    elim (cases_lt b c) [
      | inl lt ↦ (let all : d - a ≡ (b - a) + ((c - b) + (d - c)) = omega arith in
          let start : a + (b - a) ≡ b = omega arith in
          omega (
            arith,
            ap (sum_from (weight h groups s) a) all,
            sum_from-add (weight h groups s) a (b - a) ((c - b) + (d - c)),
            ap (λ k. sum_from (weight h groups s) k ((c - b) + (d - c))) start,
            sum_from-add (weight h groups s) b (c - b) (d - c),
          ))
      | inr le ↦ (let none : c - b ≡ 0 = omega arith in omega (arith, ap (sum_from (weight h groups s) b) none))
    ]

-- a span from the start weighs what its two parts weigh
pub span-add : (h : History) (groups : GroupList) (s : Scope) (a b : ℕ) → a ≤ b
    → span h groups s 0 b ≡ span h groups s 0 a + span h groups s a b
span-add h groups s a b le =
    let all : b - 0 ≡ (a - 0) + (b - a) = omega arith in
    let middle : 0 + (a - 0) ≡ a = omega arith in
    ap (sum_from (weight h groups s) 0) all ∙ sum_from-add (weight h groups s) 0 (a - 0) (b - a)
    ∙ ap (λ k. span h groups s 0 a + sum_from (weight h groups s) k (b - a)) middle

-- one place more
pub span-suc : (h : History) (groups : GroupList) (s : Scope) (j : ℕ) → span h groups s 0 (suc j) ≡ span h groups s 0 j + weight h groups s j
span-suc h groups s j =
    let e : suc j - 0 ≡ suc (j - 0) = omega arith in
    let f : 0 + (j - 0) ≡ j = omega arith in
    rw (e, f) refl

-- the span of one place weighs what the update at the place weighs
pub span-one : (h : History) (groups : GroupList) (s : Scope) (k : ℕ) → 0 < k → span h groups s (k - 1) k ≡ weight h groups s (k - 1)
span-one h groups s k some =
    let one : k - (k - 1) ≡ 1 = omega arith in
    let at : k - 1 + 0 ≡ k - 1 = omega arith in
    rw (one, at) (omega arith)

-- ---- spans on several objects

sum_by-add : (f g : ℕ → ℕ) (xs : List ℕ) → sum_by (λ x. f x + g x) xs ≡ sum_by f xs + sum_by g xs
sum_by-add f g [] = refl
sum_by-add f g (x ∷ xs) =
    omega (arith, sum_by-cons (λ y. f y + g y) x xs, sum_by-cons f x xs, sum_by-cons g x xs, sum_by-add f g xs)

sum_by-none : (xs : List ℕ) → sum_by (λ x. 0) xs ≡ 0
sum_by-none [] = refl
sum_by-none (x ∷ xs) = omega (arith, sum_by-cons (λ y. 0) x xs, sum_by-none xs)

-- a span on several objects weighs what it weighs on each of them, added up
pub span-members : (h : History) (xs : List ℕ) (a n : ℕ)
    → sum_from (λ j. sum_by (λ x. object_weight h x j) xs) a n ≡ sum_by (λ x. sum_from (object_weight h x) a n) xs
span-members h xs a zero = sym (sum_by-none xs)
span-members h xs a (suc n) =
    ap (λ s. s + sum_by (λ x. object_weight h x (a + n)) xs) (span-members h xs a n)
    ∙ sym (sum_by-add (λ x. sum_from (object_weight h x) a n) (λ x. object_weight h x (a + n)) xs)
