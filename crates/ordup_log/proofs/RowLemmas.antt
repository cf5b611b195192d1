-- Rows of marks.
use Rattle.std.proofs.Common.{◌≡◌, ◌≢◌, ℕ, zero, suc, ◌+◌, ◌-◌, ◌*◌, ◌/◌, ◌%◌, ◌<◌, ◌≤◌, false, sum}
use Rattle.std.proofs.Common.{List, [], ◌∷◌, ◌++◌, length, take, get_or, arith, refl, sym, ap, ◌∙◌, inl, inr}
use Rattle.std.specs.Prelude.{◌==◌, if◌then◌else◌}
use Rattle.std.proofs.Math.ListN.{get_or-append}
use Rattle.std.proofs.Math.Seq.{take-suc, take-length}
use Rattle.std.proofs.lemmas.Bool.{cases_Bool, cases_lt, eqb-true, eqb-false, ne_eqb}
use Rattle.std.proofs.lemmas.List.{append-nil, length-append}
use Rattle.std.proofs.lemmas.List.Sums.{sum_by_push}
use Rattle.ordup_objects.specs.declared.change.Change.{Change}
use Rattle.ordup_objects.specs.Serial.{History, with_update}
use Rattle.ordup_objects.specs.Sums.{sum_from}
use Rattle.ordup_objects.specs.Marks.{AreMarks, mark_at}
use Rattle.ordup_objects.specs.Weights.{object_weight, object_span}
use Rattle.ordup_objects.proofs.SumLemmas.{sum_from-same, sum_from-constant}
use Rattle.ordup_objects.proofs.SpanLemmas.{object_span-longer}
use Rattle.ordup_log.specs.Rows.{updates_a_row, row_due}
use Rattle.ordup_log.specs.Spans.{span}
use Rattle.ordup_log.specs.declared.scope.Scope.TheVariants.{All as Everything}

-- ---- where rows lie

-- a part of one of the first rows ends where these do, or before
pub row-within : (b c w k : ℕ) → b < c → k ≤ w → b * w + k ≤ c * w
row-within b zero w k lt le = absurd (omega (arith, lt))
row-within b (suc c) w k lt le =
    let more : suc c * w ≡ c * w + w = grind (arith) in
    elim (cases_lt b c) [
      | inl below ↦ omega (arith, more, row-within b c w k below le)
      | inr past ↦ (let at : b ≡ c = omega arith in rw at (omega (arith, more, le)))
    ]

-- an update that adds a row, and one that adds none
row-more : (n : ℕ) → suc n % updates_a_row ≡ 0 → (suc n / updates_a_row ≡ suc (n / updates_a_row)) × (updates_a_row * suc (n / updates_a_row) ≡ suc n)
row-more n due = (omega (arith, due), omega (arith, due))

row-same : (n : ℕ) → ((suc n % updates_a_row) == 0) ≡ false → suc n / updates_a_row ≡ n / updates_a_row
row-same n none =
    let some : suc n % updates_a_row ≢ 0 = eqb-false (suc n % updates_a_row) 0 none in
    omega (arith, some)

-- ---- the rows of a log that grows

get_or-append_past : (xs ys : List ℕ) (i k : ℕ) → k ≡ length xs + i → get_or (xs ++ ys) k 0 ≡ get_or ys i 0
get_or-append_past [] ys i k at = let e : k ≡ i = omega (arith, at) in ap (λ j. get_or ys j 0) e
get_or-append_past (x ∷ xs) ys i zero at = absurd (omega (arith, at))
get_or-append_past (x ∷ xs) ys i (suc k) at = get_or-append_past xs ys i k (omega (arith, at))

module _ (h : History) (m : List Change) (marks travelled : List ℕ) (number : ℕ)
    (at : number ≡ suc (length h.sets)) (len : length marks ≡ length h.sets / updates_a_row * length h.start)
    (count : length travelled ≡ length h.start) where
  pub marked-longer : length (marks ++ row_due number travelled) ≡ number / updates_a_row * length h.start
  marked-longer = rw at (elim (cases_Bool ((suc (length h.sets) % updates_a_row) == 0)) [
    | inl due ↦ (let more = row-more (length h.sets) (eqb-true _ 0 due) in
        let product : suc (length h.sets / updates_a_row) * length h.start
        ≡ length h.sets / updates_a_row * length h.start + length h.start = grind (arith) in
        rw (due, more.0) (omega (arith, length-append marks travelled, len, count, product)))
    | inr none ↦ rw (none, row-same (length h.sets) none, append-nil marks) len
  ])

  pub marks-longer : ((b x : ℕ) → b < length h.sets / updates_a_row → x < length h.start →
      get_or marks (b * length h.start + x) 0 ≡ object_span h x 0 (updates_a_row * suc b))
      → AreMarks (with_update h m) (suc (length h.sets)) travelled → (b x : ℕ) → b < number / updates_a_row → x < length h.start
      → get_or (marks ++ row_due number travelled) (b * length h.start + x) 0 ≡ object_span (with_update h m) x 0 (updates_a_row * suc b)
  marks-longer each are b x lt below =
      let n : ℕ = length h.sets in
      let w : ℕ = length h.start in
      elim (cases_lt b (n / updates_a_row)) [
        | inl before ↦
            get_or-append marks (row_due number travelled) 0 (b * w + x)
            (omega (arith, len, row-within b (n / updates_a_row) w (suc x) before (omega arith)))
            ∙ each b x before below ∙ sym (object_span-longer h (m ∷ []) x 0 (updates_a_row * suc b) (omega (arith, before)))
        | inr past ↦ elim (cases_Bool ((suc n % updates_a_row) == 0)) [
          | inl due ↦ (let more = row-more n (eqb-true _ 0 due) in
              let here : b ≡ n / updates_a_row = omega (arith, lt, past, ap (λ k. k / updates_a_row) at, more.0) in
              rw (at, due) (get_or-append_past marks travelled x (b * w + x) (rw here (omega (arith, len)))
              ∙ are x (omega (arith, below, count)) ∙ ap (object_span (with_update h m) x 0) (rw here (sym more.1))))
          | inr none ↦ absurd (omega (arith, lt, past, ap (λ k. k / updates_a_row) at, row-same n none))
        ]
      ]

-- ---- what a row weighs in all

sum_from-plus : (f g : ℕ → ℕ) (a n : ℕ) → sum_from (λ x. f x + g x) a n ≡ sum_from f a n + sum_from g a n
sum_from-plus f g a zero = refl
sum_from-plus f g a (suc n) = omega (arith, sum_from-plus f g a n)

-- sums over places and objects may be taken in both orders
sum_from-swap : (f : ℕ → ℕ → ℕ) (a n w : ℕ)
    → sum_from (λ x. sum_from (f x) a n) 0 w ≡ sum_from (λ j. sum_from (λ x. f x j) 0 w) a n
sum_from-swap f a zero w = omega (arith, sum_from-constant 0 0 w)
sum_from-swap f a (suc n) w =
    omega (arith, sum_from-plus (λ x. sum_from (f x) a n) (λ x. f x (a + n)) 0 w, sum_from-swap f a n w)

-- the front of a list in sum
sum-front : (xs : List ℕ) (k : ℕ) → k ≤ length xs → sum (take k xs) ≡ sum_from (mark_at xs) 0 k
sum-front xs zero le = refl
sum-front xs (suc k) le =
    let e : 0 + k ≡ k = omega arith in
    omega (
      arith,
      ap sum (take-suc xs k 0 (omega arith)),
      sum_by_push (λ (x : ℕ). x) (take k xs) (get_or xs k 0),
      sum-front xs k (omega arith),
      ap (mark_at xs) e,
    )

-- the marks of a place weigh in sum what the updates up to the place weigh on all objects
sum-marks : (h : History) (place : ℕ) (row : List ℕ) → length row ≡ length h.start → AreMarks h place row
    → sum row ≡ span h [] Everything 0 place
sum-marks h place row count are =
    ap sum (sym (take-length row)) ∙ sum-front row (length row) (omega arith) ∙ ap (sum_from (mark_at row) 0) count
    ∙ sum_from-same (mark_at row) (λ x. object_span h x 0 place) 0 (length h.start) (λ x lt. are x (omega (arith, lt, count)))
    ∙ sum_from-swap (object_weight h) 0 (place - 0) (length h.start)

-- and so do those of a row, of which the row 0 has none
pub sum-row : (h : History) (r : ℕ) (row : List ℕ) → length row ≡ (if r == 0 then 0 else length h.start)
    → AreMarks h (updates_a_row * r) row → sum row ≡ span h [] Everything 0 (updates_a_row * r)
sum-row h zero [] count are = refl
sum-row h zero (x ∷ row) count are = absurd (omega (arith, count))
sum-row h (suc r) row count are =
    let other : (suc r == 0) ≡ false = ne_eqb (suc r) 0 (λ e. omega (arith, e)) in
    sum-marks h (updates_a_row * suc r) row (rw other at count) are
