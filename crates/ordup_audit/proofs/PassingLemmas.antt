-- The test of a place.
use Rattle.ordup_audit.proofs.Common.{◌+◌, ◌∙◌, ◌≡◌, ap, arith, awaited_place, base, Bool, false, full_rounds, is_within, List, max}
use Rattle.ordup_audit.proofs.Common.{RecordState, refl, report_at, suc, sym, true, ℕ}
use Rattle.std.specs.Prelude.{not}
use Rattle.ordup_audit.specs.declared.report_change.ReportChange.{ReportChange}
use Rattle.ordup_audit.specs.Cursors.{AreUpto}
use Rattle.ordup_audit.specs.Passing.{is_place_within}
use Rattle.ordup_audit.proofs.CursorLemmas.{places_of}

not-not : (b : Bool) → not (not b) ≡ b
not-not true = refl
not-not false = refl

-- what a place is tested for, by the reports and the rounds up to it
pub place-tested : (r : RecordState) (k : ℕ) (changes : List ReportChange) (rounds : List ℕ) (n m reported awaited from : ℕ) (passes : Bool)
    → changes ≡ r.reports → rounds ≡ r.rounds → AreUpto (k + 1) (places_of r.reports) n → AreUpto (k + 1) r.rounds m
    → ((p : ℕ) → AreUpto p (places_of changes) n → reported ≡ report_at changes p)
    → ((p : ℕ) → AreUpto p rounds m → awaited ≡ awaited_place (full_rounds rounds) p)
    → from ≡ max reported awaited → passes ≡ not (is_within r from (k + 1)) → is_place_within r k ≡ not passes
place-tested r k changes rounds n m reported awaited from passes e f upto upto2 report await g is =
    let next : k + 1 ≡ suc k = omega arith in
    let first : reported ≡ report_at r.reports (k + 1) = rw e at (report (k + 1) (rw e upto)) in
    let second : awaited ≡ awaited_place (full_rounds r.rounds) (k + 1) = rw f at (await (k + 1) (rw f upto2)) in
    let same : from ≡ base (report_at r.reports) (full_rounds r.rounds) (k + 1) = rw (first, second) at g in
    let here : is_within r (base (report_at r.reports) (full_rounds r.rounds) (k + 1)) (k + 1) ≡ not passes =
    sym (ap not is ∙ not-not (is_within r from (k + 1)) ∙ ap (λ a. is_within r a (k + 1)) same) in
    rw next at here
