-- Steps of numbers, and the search among them.
use Rattle.std.proofs.Common.{◌≡◌, ℕ, zero, suc, ◌-◌, ◌<◌, ◌≤◌, true, false, List, [], ◌∷◌, ◌++◌, length, get_or}
use Rattle.std.proofs.Common.{arith, refl, sym, ap, ◌∙◌, inl, inr}
use Rattle.std.specs.Prelude.{◌==◌, Some, All, nat_le, if◌then◌else◌}
use Rattle.std.specs.List.{fold, slice_get}
use Rattle.std.specs.List.Sorted.{IsNonDecreasingBy, IsPartitionPoint}
use Rattle.std.proofs.lemmas.Bool.{cases_Bool, cases_lt, eqb-true}
use Rattle.std.proofs.lemmas.Bool.Decides.{nat_tests}
use Rattle.std.proofs.lemmas.List.Elements.{All-nil, All-push, All-weaker}
use Rattle.std.proofs.lemmas.List.Sums.{fold-append}
use Rattle.std.proofs.lemmas.Option.{slice_get_within, get_or_from_slice_get}
use Rattle.std.proofs.lemmas.List.Sorted.{IsNonDecreasingBy-short, IsNonDecreasingBy-push}
use Rattle.ordup_log.specs.Steps.{steps_of, as_of}

-- ---- one step more

as_of-push : (steps : List (ℕ × ℕ)) (p v k : ℕ) → as_of (steps ++ (p, v) ∷ []) k ≡ (if nat_le p k then v else as_of steps k)
as_of-push steps p v k = fold-append _ 0 steps ((p, v) ∷ [])

as_of-push_before : (steps : List (ℕ × ℕ)) (p v k : ℕ) → p ≤ k → as_of (steps ++ (p, v) ∷ []) k ≡ v
as_of-push_before steps p v k le = let is : nat_le p k ≡ true = grind (arith, nat_tests) in as_of-push steps p v k ∙ rw is refl

as_of-push_after : (steps : List (ℕ × ℕ)) (p v k : ℕ) → k < p → as_of (steps ++ (p, v) ∷ []) k ≡ as_of steps k
as_of-push_after steps p v k lt = let is : nat_le p k ≡ false = grind (arith, nat_tests) in as_of-push steps p v k ∙ rw is refl

-- ---- the steps of a number tell it

-- as of a place after them all
as_of-all : (v : ℕ → ℕ) (n k : ℕ) → v 0 ≡ 0 → n ≤ k → as_of (steps_of v n) k ≡ v n
as_of-all v zero k none le = sym none
as_of-all v (suc n) k none le = elim (cases_Bool (v (suc n) == v n)) [
  | inl same ↦ rw same (as_of-all v n k none (omega arith) ∙ sym (eqb-true (v (suc n)) (v n) same))
  | inr other ↦ rw other (as_of-push_before (steps_of v n) (suc n) (v (suc n)) k le)
]

-- and as of one among them
pub as_of-steps : (v : ℕ → ℕ) (n k : ℕ) → v 0 ≡ 0 → k ≤ n → as_of (steps_of v n) k ≡ v k
as_of-steps v zero k none le = let at : k ≡ 0 = omega arith in rw at (sym none)
as_of-steps v (suc n) k none le = elim (cases_lt k (suc n)) [
  | inl lt ↦ elim (cases_Bool (v (suc n) == v n)) [
    | inl same ↦ rw same (as_of-steps v n k none (omega arith))
    | inr other ↦ rw other (as_of-push_after (steps_of v n) (suc n) (v (suc n)) k lt ∙ as_of-steps v n k none (omega arith))
  ]
  | inr past ↦ (let at : k ≡ suc n = omega arith in rw at (as_of-all v (suc n) (suc n) none (omega arith)))
]

-- ---- their places rise

steps-within : (v : ℕ → ℕ) (n : ℕ) → All (λ step. step.0 ≤ n) (steps_of v n)
steps-within v zero = All-nil (λ (step : ℕ × ℕ). step.0 ≤ 0)
steps-within v (suc n) =
    let before =
    All-weaker (λ (step : ℕ × ℕ). step.0 ≤ n) (λ step. step.0 ≤ suc n) (λ step le. omega arith) (steps_of v n) (steps-within v n) in
    elim (cases_Bool (v (suc n) == v n)) [
      | inl same ↦ rw same before
      | inr other ↦ rw other (All-push (λ (step : ℕ × ℕ). step.0 ≤ suc n) (steps_of v n) (suc n, v (suc n)) before (omega arith))
    ]

pub steps-rise : (v : ℕ → ℕ) (n : ℕ) → IsNonDecreasingBy (λ step. step.0) (steps_of v n)
steps-rise v zero = IsNonDecreasingBy-short (λ (step : ℕ × ℕ). step.0) [] (omega arith)
steps-rise v (suc n) = elim (cases_Bool (v (suc n) == v n)) [
  | inl same ↦ rw same (steps-rise v n)
  | inr other ↦ rw other (IsNonDecreasingBy-push (λ (step : ℕ × ℕ). step.0) (steps_of v n) (suc n, v (suc n)) (steps-rise v n)
      (λ d some.
      let le : (get_or (steps_of v n) (length (steps_of v n) - 1) d).0 ≤ n =
      steps-within v n (length (steps_of v n) - 1) d (omega arith) in
      omega arith))
]

-- ---- the search

-- a number at the front of steps that all come after a place
found_none : (steps : List (ℕ × ℕ)) (k v : ℕ) → All (λ step. nat_le step.0 k ≡ false) steps
    → fold (λ w step. if nat_le step.0 k then step.1 else w) v steps ≡ v
found_none [] k v after = refl
found_none (step ∷ steps) k v after =
    rw (after 0 step (omega arith)) (found_none steps k v (λ j e lt. after (suc j) e (omega arith)))

-- the first i steps are at or before a place, and the others after it
abbrev pub AreSplit : List (ℕ × ℕ) → ℕ → ℕ → Type 0
AreSplit steps k i = IsPartitionPoint (λ step. nat_le step.0 k ≡ true) (λ step. nat_le step.0 k ≡ false) steps i

-- a number that the first i + 1 steps changed, and no later one
found_some : (steps : List (ℕ × ℕ)) (k i v : ℕ) (d : ℕ × ℕ) → i < length steps → AreSplit steps k (suc i)
    → fold (λ w step. if nat_le step.0 k then step.1 else w) v steps ≡ (get_or steps i d).1
found_some [] k i v d lt point = absurd (omega (arith, lt))
found_some (step ∷ steps) k zero v d lt point =
    rw (point.0 0 step (omega arith) (omega arith))
    (found_none steps k step.1 (λ j e below. point.1 (suc j) e (omega arith) (omega arith)))
found_some (step ∷ steps) k (suc i) v d lt point =
    let rest : AreSplit steps k (suc i) = (
      λ j e low high. point.0 (suc j) e (omega arith) (omega arith),
      λ j e low high. point.1 (suc j) e (omega arith) (omega arith),
    ) in
    rw (point.0 0 step (omega arith) (omega arith)) (found_some steps k i step.1 d (omega arith) rest)

-- what a search found: no step, or the last of some
pub as_of-none : (steps : List (ℕ × ℕ)) (k : ℕ) → AreSplit steps k 0 → as_of steps k ≡ 0
as_of-none steps k point = found_none steps k 0 (λ j e lt. point.1 j e (omega arith) lt)

pub as_of-some : (steps : List (ℕ × ℕ)) (k i : ℕ) (d : ℕ × ℕ) → 0 < i → i ≤ length steps → AreSplit steps k i
    → as_of steps k ≡ (get_or steps (i - 1) d).1
as_of-some steps k zero d some le point = absurd (omega (arith, some))
as_of-some steps k (suc i) d some le point =
    let e : suc i - 1 ≡ i = omega arith in
    rw e (found_some steps k i 0 d (omega arith) point)

-- the last of all steps, where it is at or before the place
pub as_of-last : (steps : List (ℕ × ℕ)) (k : ℕ) (last : ℕ × ℕ) → IsNonDecreasingBy (λ (step : ℕ × ℕ). step.0) steps
    → slice_get steps (length steps - 1) ≡ Some last → last.0 ≤ k → as_of steps k ≡ last.1
as_of-last steps k last sorted at le =
    let end : ℕ = length steps - 1 in
    let some : end < length steps = slice_get_within steps end last at in
    let all : AreSplit steps k (length steps) = (
      λ j d low high.
          let before : (get_or steps j d).0 ≤ (get_or steps end d).0 = sorted j end d (omega (arith, high)) some in
          let is : get_or steps end d ≡ last = get_or_from_slice_get steps end last d at in
          let early : (get_or steps j d).0 ≤ k = omega (arith, le, (rw is at before)) in
          grind (arith, nat_tests, early),
      λ j d low high. absurd (omega (arith, low, high)),
    ) in
    as_of-some steps k (length steps) last (omega (arith, some)) (omega arith) all
    ∙ ap (λ (step : ℕ × ℕ). step.1) (get_or_from_slice_get steps end last last at)
