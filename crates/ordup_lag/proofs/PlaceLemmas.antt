-- Places among rounds and windows.
use Rattle.ordup_audit.proofs.Common.{◌+◌, ◌<◌, ◌==◌, ◌∷◌, ◌≡◌, ◌≤◌, [], AllPairs, AllPairs-from_increasing, arith, cases_lt}
use Rattle.ordup_audit.proofs.Common.{eq-eqb, false, get_or, inl, inr, IsStrictlyIncreasing, le-leb, length, List}
use Rattle.ordup_audit.proofs.Common.{list_any, lt-leb, lt-ltb, ltb-true, None, nat_lt, or-true, refl, Some, suc, sym, true}
use Rattle.ordup_audit.proofs.Common.{Window, zero, ℕ}
use Rattle.std.specs.List.{position, position_or_len}
use Rattle.std.specs.List.Sorted.{IsNonDecreasingBy, IsPartitionPoint}
use Rattle.std.proofs.lemmas.Bool.{and_right, cases_eq, le-ltb, ltb-false, ne_eqb}
use Rattle.std.proofs.lemmas.List.Sorted.{IsNonDecreasingBy-from_all_adjacent}
use Rattle.std.proofs.lemmas.List.Sums.{position_or_len_is}
use Rattle.ordup_lag.specs.LagRows.{AreApart, has_place}

-- ---- rounds

round-absent : (k : ℕ) (rounds : List ℕ) → ((i : ℕ) → i < length rounds → get_or rounds i 0 ≡ k → ⊥)
    → list_any (λ p. p == k) rounds ≡ false
round-absent k [] absent = refl
round-absent k (x ∷ rounds) absent =
    rw (ne_eqb x k (absent 0 (omega arith))) (round-absent k rounds (λ i lt. absent (suc i) (omega arith)))

round-there : (k i : ℕ) (rounds : List ℕ) → i < length rounds → get_or rounds i 0 ≡ k → list_any (λ p. p == k) rounds ≡ true
round-there k i [] lt at = absurd (omega arith)
round-there k zero (x ∷ rounds) lt at = rw (eq-eqb x k at) refl
round-there k (suc i) (x ∷ rounds) lt at = rw (round-there k i rounds (omega arith) at) (or-true (x == k))

-- the first n of the rounds are before a place, and no later one
abbrev pub AreBefore : List ℕ → ℕ → ℕ → Type 0
AreBefore rounds k n = IsPartitionPoint (λ (p : ℕ). nat_lt p k ≡ true) (λ p. nat_lt p k ≡ false) rounds n

-- they do not fall
pub rounds-rise : (rounds : List ℕ) → IsStrictlyIncreasing rounds → IsNonDecreasingBy (λ (p : ℕ). p) rounds
rounds-rise rounds rise i j d le there = elim (cases_lt i j) [
  | inl lt ↦ (
      let pairs : AllPairs (λ x y. x < y) rounds = AllPairs-from_increasing rounds rise in
      let before : get_or rounds i d < get_or rounds j d = pairs i j d lt there in
      omega arith)
  | inr past ↦ (let same : i ≡ j = omega arith in rw same (omega arith))
]

-- where all are, none is at the place
pub round-none : (rounds : List ℕ) (k n : ℕ) → AreBefore rounds k n → length rounds ≤ n
    → false ≡ list_any (λ p. p == k) rounds
round-none rounds k n before all =
    sym (round-absent k rounds (λ i lt e. omega (arith, ltb-true (get_or rounds i 0) k (before.0 i 0 (omega arith) (omega arith)))))

-- and else the next one tells it
pub round-next : (rounds : List ℕ) (k n : ℕ) → IsStrictlyIncreasing rounds → AreBefore rounds k n → n < length rounds
    → (get_or rounds n 0 == k) ≡ list_any (λ p. p == k) rounds
round-next rounds k n rise before there = elim (cases_eq (get_or rounds n 0) k) [
  | inl same ↦ rw (eq-eqb (get_or rounds n 0) k same) (sym (round-there k n rounds there same))
  | inr other ↦ (
      let pairs : AllPairs (λ x y. x < y) rounds = AllPairs-from_increasing rounds rise in
      rw (ne_eqb (get_or rounds n 0) k other) (sym (round-absent k rounds
      (λ i lt e. elim (cases_lt i n) [
        | inl first ↦ omega (arith, ltb-true (get_or rounds i 0) k (before.0 i 0 (omega arith) first))
        | inr past ↦ elim (cases_lt n i) [
          | inl later ↦ omega (arith, pairs n i 0 later lt, ltb-false (get_or rounds n 0) k (before.1 n 0 (omega arith) there))
          | inr at ↦ (let same : i ≡ n = omega arith in other (rw same at e))
        ]
      ]))))
]

-- ---- windows

-- windows that are apart end in their order
pub ends-rise : (windows : List Window) → AreApart windows → IsNonDecreasingBy (λ (w : Window). w.to) windows
ends-rise windows are = IsNonDecreasingBy-from_all_adjacent (λ (w : Window). w.to) windows
    (λ i d lt. omega (arith, are.apart i d lt, are.forward (i + 1) d lt))

-- and begin in it
starts-rise : (windows : List Window) → AreApart windows → IsNonDecreasingBy (λ (w : Window). w.from) windows
starts-rise windows are = IsNonDecreasingBy-from_all_adjacent (λ (w : Window). w.from) windows
    (λ i d lt. omega (arith, are.apart i d lt, are.forward i d (omega arith)))

-- the first n of the windows end before a place, and no later one
abbrev pub EndBefore : List Window → ℕ → ℕ → Type 0
EndBefore windows k n = IsPartitionPoint (λ (w : Window). nat_lt w.to k ≡ true) (λ w. nat_lt w.to k ≡ false) windows n

-- these do not have it
ended : (windows : List Window) (k n : ℕ) (d : Window) → EndBefore windows k n → n ≤ length windows
    → (j : ℕ) → j < n → has_place k (get_or windows j d) ≡ false
ended windows k n d before few j lt =
    let w = get_or windows j d in
    and_right (nat_lt w.from k) _ (lt-leb k w.to (ltb-true w.to k (before.0 j d (omega arith) lt)))

-- the next one has it where it begins before it
pub window-next : (windows : List Window) (k n : ℕ) (d : Window) → EndBefore windows k n → n < length windows
    → (get_or windows n d).from < k → Some n ≡ position (has_place k) windows
window-next windows k n d before there begun =
    let w = get_or windows n d in
    let has : has_place k w ≡ true =
    rw (lt-ltb w.from k begun, le-leb k w.to (ltb-false w.to k (before.1 n d (omega arith) there))) refl in
    let at : position_or_len (has_place k) windows ≡ n =
    position_or_len_is (has_place k) windows n d (omega arith) (ended windows k n d before (omega arith)) (λ lt. has) in
    rw (at, lt-ltb n (length windows) there) refl

-- and else none has it
pub window-none : (windows : List Window) (k n : ℕ) (d : Window) → AreApart windows → EndBefore windows k n → n ≤ length windows
    → (n < length windows → k ≤ (get_or windows n d).from) → None ≡ position (has_place k) windows
window-none windows k n d are before few late =
    let none : (j : ℕ) → j < length windows → has_place k (get_or windows j d) ≡ false =
    λ j lt. elim (cases_lt j n) [
      | inl first ↦ ended windows k n d before few j first
      | inr past ↦ (
          let w = get_or windows j d in
          let not_begun : nat_lt w.from k ≡ false =
          le-ltb w.from k (omega (arith, late (omega arith), starts-rise windows are n j d past lt)) in
          rw not_begun refl)
    ] in
    let at : position_or_len (has_place k) windows ≡ length windows =
    position_or_len_is (has_place k) windows (length windows) d (omega arith) none (λ lt. absurd (omega arith)) in
    rw (at, le-ltb (length windows) (length windows) (omega arith)) refl
