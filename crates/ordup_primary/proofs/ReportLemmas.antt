-- Reports that are kept as their changes.
use Rattle.std.proofs.Common.{◌≡◌, ℕ, zero, suc, ◌+◌, ◌-◌, ◌<◌, ◌≤◌, List, [], ◌∷◌, ◌++◌, length, get_or}
use Rattle.std.proofs.Common.{arith, refl, sym, ap, ◌∙◌, inl, inr}
use Rattle.std.specs.Prelude.{◌==◌}
use Rattle.std.specs.List.Sorted.{IsNonDecreasingBy}
use Rattle.std.proofs.Math.ListN.{get_or-append}
use Rattle.std.proofs.lemmas.Bool.{cases_Bool, eqb-true, eq-eqb}
use Rattle.std.proofs.lemmas.List.{length_push, get_or_push, ext_get_or}
use Rattle.std.proofs.lemmas.List.FromFn.{length-map-range_with_len, get_or-map-range_with_len}
use Rattle.ordup_log.specs.Steps.{steps_of, as_of}
use Rattle.ordup_log.proofs.StepLemmas.{as_of-steps, steps-rise}
use Rattle.ordup_primary.specs.Settling.{report_at}
use Rattle.ordup_primary.specs.Reports.{reported_from_start, changes_of, last_report, with_report}
use Rattle.ordup_primary.specs.PrimaryInside.{reports_upto}

-- numbers that are the same up to n have the same steps
steps_of-same : (v w : ℕ → ℕ) (n : ℕ) → ((k : ℕ) → k ≤ n → v k ≡ w k) → steps_of v n ≡ steps_of w n
steps_of-same v w zero same = refl
steps_of-same v w (suc n) same =
    rw (same (suc n) (omega arith), same n (omega arith), steps_of-same v w n (λ k le. same k (omega arith))) refl

-- the last of them, if there is one
last-step : (v : ℕ → ℕ) (n : ℕ) → v 0 ≡ 0 → (get_or (steps_of v n) (length (steps_of v n) - 1) (0, 0)).1 ≡ v n
last-step v zero none = sym none
last-step v (suc n) none = elim (cases_Bool (v (suc n) == v n)) [
  | inl same ↦ rw same (last-step v n none ∙ sym (eqb-true (v (suc n)) (v n) same))
  | inr other ↦
      (let last : ℕ × ℕ = (suc n, v (suc n)) in
      rw other (ap (λ step. step.1) (get_or_push (steps_of v n) last (0, 0) (length (steps_of v n ++ last ∷ []) - 1)
      (omega (arith, length_push (steps_of v n) last)))))
]

-- reports are read from their changes
pub reports-read : (reports : List ℕ) → reports_upto (changes_of reports) (length reports) ≡ reports
reports-read reports =
    ext_get_or 0 (reports_upto (changes_of reports) (length reports)) reports
    (length-map-range_with_len (as_of (changes_of reports)) 1 (length reports))
    (λ i lt. (let next : 1 + i ≡ suc i = omega arith in
    let here : i < length reports = rw (length-map-range_with_len (as_of (changes_of reports)) 1 (length reports)) at lt in
    get_or-map-range_with_len (as_of (changes_of reports)) 1 (length reports) i (suc i) 0 here next
    ∙ as_of-steps (reported_from_start reports) (length reports) (suc i) refl (omega arith)))

-- the last report, of a report more
pub last_report-with : (changes : List (ℕ × ℕ)) (k r : ℕ) → r ≡ last_report (with_report changes k r)
last_report-with changes k r = elim (cases_Bool (r == last_report changes)) [
  | inl same ↦ rw same (eqb-true r (last_report changes) same)
  | inr other ↦ (let more : ℕ × ℕ = (k, r) in
      rw other (sym (ap (λ (c : ℕ × ℕ). c.1) (get_or_push changes more (0, 0) (length (changes ++ more ∷ []) - 1)
      (omega (arith, length_push changes more))))))
]

-- a report that is the last one is no change
pub with_report-same : (changes : List (ℕ × ℕ)) (k r : ℕ) → r ≡ last_report changes → with_report changes k r ≡ changes
with_report-same changes k r same = rw (eq-eqb r (last_report changes) same) refl

-- ---- changes that are those of reports

module _ (changes : List (ℕ × ℕ)) (decided : ℕ) (are : changes ≡ changes_of (reports_upto changes decided)) where
  count : length (reports_upto changes decided) ≡ decided
  count = length-map-range_with_len (as_of changes) 1 decided

  -- they can be searched
  pub changes-rise : IsNonDecreasingBy (λ change. change.0) changes
  changes-rise = rw are (steps-rise (reported_from_start (reports_upto changes decided)) (length (reports_upto changes decided)))

  -- and tell the report at each decision
  pub report_at-found : (k : ℕ) → 0 < k → k ≤ decided → as_of changes k ≡ report_at (reports_upto changes decided) k
  report_at-found k some le =
      sym (get_or-map-range_with_len (as_of changes) 1 decided (k - 1) k 0 (omega (arith, count)) (omega arith))

  -- and by the last of them the last report
  last-found : last_report changes ≡ reported_from_start (reports_upto changes decided) (length (reports_upto changes decided))
  last-found =
      ap last_report are
      ∙ last-step (reported_from_start (reports_upto changes decided)) (length (reports_upto changes decided)) refl

  -- with one report more they are those of the reports with it
  with_report-changes : (r : ℕ) → with_report changes (decided + 1) r ≡ changes_of (reports_upto changes decided ++ r ∷ [])
  with_report-changes r =
      let reports = reports_upto changes decided in
      let n = length reports in
      let more = reported_from_start (reports ++ r ∷ []) in
      let size : length (reports ++ r ∷ []) ≡ suc n = omega (arith, length_push reports r) in
      let next : decided + 1 ≡ suc n = omega (arith, count) in
      let last : more (suc n) ≡ r = get_or_push (0 ∷ reports) r 0 (suc n) refl in
      let same : (k : ℕ) → k ≤ n → more k ≡ reported_from_start reports k =
      λ k le. get_or-append (0 ∷ reports) (r ∷ []) 0 k (omega arith) in
      rw (size, next, last, same n (omega arith), last-found, steps_of-same more (reported_from_start reports) n same, ← are) refl

  pub with_report-reports : (r : ℕ) → reports_upto (with_report changes (decided + 1) r) (decided + 1)
      ≡ reports_upto changes decided ++ r ∷ []
  with_report-reports r =
      let size : decided + 1 ≡ length (reports_upto changes decided ++ r ∷ []) =
      omega (arith, count, length_push (reports_upto changes decided) r) in
      rw (with_report-changes r, size) (reports-read (reports_upto changes decided ++ r ∷ []))

  pub with_report-kept : (r : ℕ) → with_report changes (decided + 1) r
      ≡ changes_of (reports_upto (with_report changes (decided + 1) r) (decided + 1))
  with_report-kept r = with_report-changes r ∙ ap changes_of (sym (with_report-reports r))
