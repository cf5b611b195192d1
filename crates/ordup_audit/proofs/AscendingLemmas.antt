-- Ascending lists of places are no longer than their greatest place.
use Rattle.ordup_audit.proofs.Common.{◌+◌, ◌-◌, ◌<◌, ◌≡◌, ◌≤◌, All, All-map, AreReportChanges, AreRoundPlaces, arith, cases_lt, get_or}
use Rattle.ordup_audit.proofs.Common.{inl, inr, IsStrictlyIncreasing, length, length-map, List, map, suc, zero, ℕ}
use Rattle.ordup_audit.specs.declared.report_change.ReportChange.{ReportChange}

-- ascending numbers are above their places
pub above : (xs : List ℕ) → IsStrictlyIncreasing xs → All (λ x. 0 < x) xs → (i : ℕ) → i < length xs → i < get_or xs i 0
above xs rise some zero there = some 0 0 there
above xs rise some (suc i) there =
    let before : i < get_or xs i 0 = above xs rise some i (omega arith) in
    let next : i + 1 ≡ suc i = omega arith in
    let lt : get_or xs i 0 < get_or xs (suc i) 0 = rw next at (rise i (omega arith)) in
    omega arith

-- so there are no more of them than their greatest
pub ascending-few : (xs : List ℕ) (d : ℕ) → IsStrictlyIncreasing xs → All (λ x. 0 < x) xs → All (λ x. x ≤ d) xs
    → length xs ≤ d
ascending-few xs d rise some upto = elim (cases_lt 0 (length xs)) [
  | inl more ↦ (
      let last : length xs - 1 < length xs = omega arith in
      omega (arith, above xs rise some (length xs - 1) last, upto (length xs - 1) 0 last))
  | inr none ↦ omega arith
]

-- there are no more reports than updates, and no more rounds
pub reports-few : (decided : ℕ) (changes : List ReportChange) → AreReportChanges decided changes → length changes ≤ decided
reports-few decided changes are =
    let places = map (λ (c : ReportChange). c.place) changes in
    let few : length places ≤ decided =
    ascending-few places decided are.places
    (All-map (λ k. 0 < k) (λ (c : ReportChange). c.place) changes (λ i d lt. (are.each i d lt).0))
    (All-map (λ k. k ≤ decided) (λ (c : ReportChange). c.place) changes (λ i d lt. (are.each i d lt).1)) in
    omega (arith, length-map changes (λ (c : ReportChange). c.place))

pub rounds-few : (decided : ℕ) (rounds : List ℕ) → AreRoundPlaces decided rounds → length rounds ≤ decided
rounds-few decided rounds are =
    ascending-few rounds decided are.ascending (λ i d lt. (are.each i d lt).0) (λ i d lt. (are.each i d lt).1)
