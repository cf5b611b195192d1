-- The changes of what a site had reported, and what they tell.
use Rattle.ordup_audit.proofs.Common.{◌++◌, ◌+◌, ◌-◌, ◌<◌, ◌∙◌, ◌∷◌, ◌≡◌, ◌≤◌, [], All, All-nil, All-push, All-weaker, AllPairs, ap}
use Rattle.ordup_audit.proofs.Common.{AreReportChanges, arith, cases_Bool, cases_lt, eqb-true, get_or, get_or-map, inl, inr}
use Rattle.ordup_audit.proofs.Common.{IsStrictlyIncreasing, le-leb, length, length-map, List, lt-leb, map, most_updates, refl, report_at}
use Rattle.ordup_audit.proofs.Common.{suc, sym, zero, ℕ}
use Rattle.ordup_record.specs.RecordsOf.{report_changes, reported_before_or_at}
use Rattle.std.specs.Prelude.{◌==◌}
use Rattle.std.proofs.lemmas.Bool.{eqb-false}
use Rattle.std.proofs.lemmas.List.{map_push}
use Rattle.std.proofs.lemmas.List.Quantifiers.{all_pairs_push}
use Rattle.std.proofs.lemmas.List.Sums.{fold-append}
use Rattle.ordup_log.specs.Steps.{steps_of}
use Rattle.ordup_primary.specs.Settling.{report_at as report_in}
use Rattle.ordup_primary.specs.Reports.{reported_from_start}
use Rattle.ordup_audit.specs.RecordViews.{change_of_step}
use Rattle.ordup_audit.specs.declared.report_change.ReportChange.{ReportChange}

-- a later change at the end does not count
report_at-before : (changes : List ReportChange) (c : ReportChange) (k : ℕ) → k < c.place
    → report_at (changes ++ c ∷ []) k ≡ report_at changes k
report_at-before changes c k lt = rw (fold-append, lt-leb c.place k lt) refl

-- and an earlier one at the end does
report_at-here : (changes : List ReportChange) (c : ReportChange) (k : ℕ) → c.place ≤ k
    → report_at (changes ++ c ∷ []) k ≡ c.reported
report_at-here changes c k le = rw (fold-append, le-leb c.place k le) refl

module _ (reported_at : ℕ → ℕ) where
  -- from the last place on they tell what was reported there
  report_at-from : (d k : ℕ) → d ≤ k → report_at (report_changes reported_at d) k ≡ reported_before_or_at reported_at d
  report_at-from zero k le = refl
  report_at-from (suc d) k le =
      elim (cases_Bool (reported_at (suc d) == reported_before_or_at reported_at d)) [
        | inl same ↦ rw same (report_at-from d k (omega arith)
            ∙ sym (eqb-true (reported_at (suc d)) (reported_before_or_at reported_at d) same))
        | inr other ↦ rw other (report_at-here (report_changes reported_at d) (record { place = suc d; reported = reported_at (suc d) })
            k le)
      ]

  -- and before, what was reported at each place
  report_at-each : (d k : ℕ) → k ≤ d → report_at (report_changes reported_at d) k ≡ reported_before_or_at reported_at k
  report_at-each zero k le = (let none : k ≡ 0 = omega arith in rw none refl)
  report_at-each (suc d) k le = elim (cases_lt k (suc d)) [
    | inl before ↦ elim (cases_Bool (reported_at (suc d) == reported_before_or_at reported_at d)) [
      | inl same ↦ rw same (report_at-each d k (omega arith))
      | inr other ↦ rw other
          (report_at-before (report_changes reported_at d) (record { place = suc d; reported = reported_at (suc d) }) k before
          ∙ report_at-each d k (omega arith))
    ]
    | inr at ↦ (let here : k ≡ suc d = omega arith in rw here (report_at-from (suc d) (suc d) (omega arith)))
  ]

  pub report_at-changes : (d k : ℕ) → 0 < k → k ≤ d → report_at (report_changes reported_at d) k ≡ reported_at k
  report_at-changes d zero some le = absurd (omega arith)
  report_at-changes d (suc k) some le = report_at-each d (suc k) le

-- what is reported rises from place to place, up to d
abbrev pub AreReportsRising : (ℕ → ℕ) → ℕ → Type 0
AreReportsRising reported_at d = (j k : ℕ) → 0 < j → j ≤ k → k ≤ d → reported_at j ≤ reported_at k

-- a change comes before another
abbrev ComesBefore : ReportChange → ReportChange → Type 0
ComesBefore c e = (c.place < e.place) × (c.reported < e.reported)

-- a change up to this place, with no more than this reported
abbrev IsUpto : ℕ → ℕ → ReportChange → Type 0
IsUpto d reported c = (0 < c.place) × (c.place ≤ d) × (0 < c.reported) × (c.reported ≤ reported)

module _ (reported_at : ℕ → ℕ) where
  before-le : (d : ℕ) → AreReportsRising reported_at (suc d) → reported_before_or_at reported_at d ≤ reported_at (suc d)
  before-le zero rising = omega arith
  before-le (suc d) rising = rising (suc d) (suc (suc d)) (omega arith) (omega arith) (omega arith)

  rising-shorter : (d : ℕ) → AreReportsRising reported_at (suc d) → AreReportsRising reported_at d
  rising-shorter d rising j k some le last = rising j k some le (omega arith)

  changes-upto : (d : ℕ) → AreReportsRising reported_at d
      → All (IsUpto d (reported_before_or_at reported_at d)) (report_changes reported_at d)
  changes-upto zero rising = All-nil (IsUpto 0 0)
  changes-upto (suc d) rising =
      let more : reported_before_or_at reported_at d ≤ reported_at (suc d) = before-le d rising in
      let changes = report_changes reported_at d in
      let before : All (IsUpto (suc d) (reported_at (suc d))) changes =
      All-weaker (IsUpto d (reported_before_or_at reported_at d)) (IsUpto (suc d) (reported_at (suc d)))
      (λ c is. (is.0, omega (arith, is.1), is.2, omega (arith, is.3))) changes (changes-upto d (rising-shorter d rising)) in
      elim (cases_Bool (reported_at (suc d) == reported_before_or_at reported_at d)) [
        | inl same ↦ rw same before
        | inr other ↦ (
            let apart = eqb-false (reported_at (suc d)) (reported_before_or_at reported_at d) other in
            rw other (All-push (IsUpto (suc d) (reported_at (suc d))) changes (record { place = suc d; reported = reported_at (suc d) })
            before
            (omega arith, omega arith, omega arith, omega arith)))
      ]

  changes-pairs : (d : ℕ) → AreReportsRising reported_at d → AllPairs ComesBefore (report_changes reported_at d)
  changes-pairs zero rising = λ i j x lt there. absurd (omega arith)
  changes-pairs (suc d) rising =
      let more : reported_before_or_at reported_at d ≤ reported_at (suc d) = before-le d rising in
      let changes = report_changes reported_at d in
      let pairs : AllPairs ComesBefore changes = changes-pairs d (rising-shorter d rising) in
      let upto : All (IsUpto d (reported_before_or_at reported_at d)) changes = changes-upto d (rising-shorter d rising) in
      elim (cases_Bool (reported_at (suc d) == reported_before_or_at reported_at d)) [
        | inl same ↦ rw same pairs
        | inr other ↦ (
            let apart = eqb-false (reported_at (suc d)) (reported_before_or_at reported_at d) other in
            let last : ReportChange = record { place = suc d; reported = reported_at (suc d) } in
            rw other (all_pairs_push ComesBefore changes last pairs
            (λ i x there. (omega (arith, (upto i x there).1), omega (arith, (upto i x there).3)))))
      ]

-- numbers of elements that rise from each to all later ones
rising-by : (f : ReportChange → ℕ) (changes : List ReportChange)
    → ((i j : ℕ) (d : ReportChange) → i < j → j < length changes → f (get_or changes i d) < f (get_or changes j d))
    → IsStrictlyIncreasing (map f changes)
rising-by f changes rise k there =
    let d : ReportChange = record { place = 0; reported = 0 } in
    let second : k + 1 < length changes = rw (length-map changes f) at there in
    let first : k < length changes = omega arith in
    let lt : f (get_or changes k d) < f (get_or changes (k + 1) d) = rise k (k + 1) d (omega arith) second in
    rw (get_or-map f changes k d 0 first, get_or-map f changes (k + 1) d 0 second) lt

-- so they are report changes
pub changes-are : (reported_at : ℕ → ℕ) (d : ℕ) → AreReportsRising reported_at d
    → reported_before_or_at reported_at d ≤ most_updates
    → AreReportChanges d (report_changes reported_at d)
changes-are reported_at d rising few =
    let changes = report_changes reported_at d in
    let pairs : AllPairs ComesBefore changes = changes-pairs reported_at d rising in
    let upto : All (IsUpto d (reported_before_or_at reported_at d)) changes = changes-upto reported_at d rising in
    record {
      places = rising-by (λ c. c.place) changes (λ i j x lt there. (pairs i j x lt there).0);
      each = λ i x there. ((upto i x there).0, (upto i x there).1);
      rising = rising-by (λ c. c.reported) changes (λ i j x lt there. (pairs i j x lt there).1);
      reported = λ i x there. ((upto i x there).2, omega (arith, (upto i x there).3));
    }

-- ---- changes as a primary has them

before-is : (reports : List ℕ) (k : ℕ) → reported_before_or_at (report_in reports) k ≡ reported_from_start reports k
before-is reports zero = refl
before-is reports (suc k) = let same : suc k - 1 ≡ k = omega arith in rw same refl

-- changes of the same numbers are the same
copied : (f g : ℕ → ℕ) → ((k : ℕ) → reported_before_or_at f k ≡ g k) → (d : ℕ)
    → map change_of_step (steps_of g d) ≡ report_changes f d
copied f g same zero = refl
copied f g same (suc d) =
    let last : f (suc d) ≡ g (suc d) = same (suc d) in
    rw (last, same d) (elim (cases_Bool (g (suc d) == g d)) [
      | inl still ↦ rw still (copied f g same d)
      | inr other ↦ rw other (map_push change_of_step (steps_of g d) (suc d, g (suc d))
          ∙ ap (λ changes. changes ++ change_of_step (suc d, g (suc d)) ∷ []) (copied f g same d))
    ])

pub changes-copied : (reports : List ℕ) (d : ℕ)
    → map change_of_step (steps_of (reported_from_start reports) d) ≡ report_changes (report_in reports) d
changes-copied reports d = copied (report_in reports) (reported_from_start reports) (before-is reports) d
