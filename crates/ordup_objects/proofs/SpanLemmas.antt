-- Spans on one object.
use Rattle.std.proofs.Common.{◌≡◌, ℕ, zero, suc, ◌+◌, ◌-◌, ◌<◌, ◌≤◌}
use Rattle.std.proofs.Common.{ℤ, List, length, arith, refl, sym, ap, ◌∙◌, inl, inr}
use Rattle.std.proofs.lemmas.Bool.{cases_lt}
use Rattle.std.proofs.lemmas.Int.{ints}
use Rattle.ordup_objects.specs.declared.change.Change.{Change}
use Rattle.ordup_objects.specs.States.{value_at}
use Rattle.ordup_objects.specs.Serial.{History, serial, with_more}
use Rattle.ordup_objects.specs.Marks.{LongerHistoriesKeepMarks}
use Rattle.ordup_objects.specs.Sums.{sum_from}
use Rattle.ordup_objects.specs.Weights.{distance, object_weight, object_span, ValuesMoveByTheirWeights, LongerHistoriesKeepObjectSpans}
use Rattle.ordup_objects.proofs.SerialLemmas.{serial-longer}
use Rattle.ordup_objects.proofs.SetLemmas.{distance-same}
use Rattle.ordup_objects.proofs.SumLemmas.{sum_from-add, sum_from-same}

-- one place more
pub object_span-suc : (h : History) (x j : ℕ) → object_span h x 0 (suc j) ≡ object_span h x 0 j + object_weight h x j
object_span-suc h x j =
    let e : suc j - 0 ≡ suc (j - 0) = omega arith in
    let f : 0 + (j - 0) ≡ j = omega arith in
    rw (e, f) refl

-- a span from the start weighs what its two parts weigh
pub object_span-add : (h : History) (x a b : ℕ) → a ≤ b → object_span h x 0 b ≡ object_span h x 0 a + object_span h x a b
object_span-add h x a b le =
    let all : b - 0 ≡ (a - 0) + (b - a) = omega arith in
    let middle : 0 + (a - 0) ≡ a = omega arith in
    ap (sum_from (object_weight h x) 0) all ∙ sum_from-add (object_weight h x) 0 (a - 0) (b - a)
    ∙ ap (λ k. object_span h x 0 a + sum_from (object_weight h x) k (b - a)) middle

-- updates that are added later leave the weights as they were
pub object_weight-longer : (h : History) (more : List (List Change)) (x j : ℕ) → j < length h.sets
    → object_weight (with_more h more) x j ≡ object_weight h x j
object_weight-longer h more x j lt = rw (serial-longer h more (suc j) (omega arith), serial-longer h more j (omega arith)) refl

pub object_span-longer : LongerHistoriesKeepObjectSpans
object_span-longer h more x a b le = elim (cases_lt a b) [
  | inl lt ↦ sum_from-same _ _ a (b - a) (λ i below. object_weight-longer h more x i (omega arith))
  | inr ge ↦ (let none : b - a ≡ 0 = omega arith in rw none refl)
]

-- and the marks
pub AreMarks-longer : LongerHistoriesKeepMarks
AreMarks-longer h place marks more le are = λ x lt. are x lt ∙ sym (object_span-longer h more x 0 place le)

distance-triangle : (x y z : ℤ) → distance x z ≤ distance x y + distance y z
distance-triangle x y z = grind (arith, ints)

-- a path is no shorter than the way between its ends
path-triangle : (v : ℕ → ℤ) (a n : ℕ) → distance (v (a + n)) (v a) ≤ sum_from (λ j. distance (v (suc j)) (v j)) a n
path-triangle v a zero = let e : a + 0 ≡ a = omega arith in rw e (omega (arith, distance-same (v a)))
path-triangle v a (suc n) =
    let e : a + suc n ≡ suc (a + n) = omega arith in
    rw e (omega (arith, path-triangle v a n, distance-triangle (v (suc (a + n))) (v (a + n)) (v a)))

-- a value moves by no more than the span weighs
pub moved : ValuesMoveByTheirWeights
moved h x a b le =
    let e : a + (b - a) ≡ b = omega arith in
    rw e at (path-triangle (λ j. value_at (serial h j) x) a (b - a))
