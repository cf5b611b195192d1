-- Verdicts and valid records.
use Rattle.ordup_audit.proofs.Common.{◌+◌, ◌<◌, ◌∙◌, ◌≡◌, ◌≤◌, ap, arith, Bool, cases_lt, false, false≢true, full_rounds, get_or}
use Rattle.ordup_audit.proofs.Common.{get_or_default, history_of, inl, inr, is_within, IsLegalHistory, IsRecord, IsValid, IsWindow, le-leb}
use Rattle.ordup_audit.proofs.Common.{leb-true, length, length-map, List, RecordState, refl, report_at, StaysWithin, suc, sym, true}
use Rattle.ordup_audit.proofs.Common.{Window, zero, ℕ, ℤ}
use Rattle.std.specs.Prelude.{not}
use Rattle.std.proofs.lemmas.Bool.{true≢false}
use Rattle.ordup_rounds.specs.Schedules.{IsLimitTest}
use Rattle.ordup_rounds.specs.Windows.{AreDisjointWindows}
use Rattle.ordup_rounds.proofs.RoundLemmas.{certified_rounds_are_fewest}
use Rattle.ordup_limits.proofs.EntryLemmas.{in_force-test}
use Rattle.ordup_audit.specs.Passing.{PassesBelow, IsFirstFailure, is_update_legal, is_place_within, window_at, is_window_over}
use Rattle.ordup_audit.specs.Passing.{is_window_apart, is_window_unreported}
use Rattle.ordup_audit.specs.Verdicts.{AreUpdatesLegal, ArePlacesWithin, AreWindowsOver, AreWindowsApart, AreWindowsUnreported, IsVerdict}
use Rattle.ordup_audit.specs.Verdicts.{IfFewest, NoFewerRounds}
use Rattle.ordup_audit.specs.declared.verdict.Verdict.{Verdict}
use Rattle.ordup_audit.specs.declared.verdict.Verdict.TheVariants.{Fewest, No}
use Rattle.ordup_audit.specs.declared.verdict.Reason.{Reason}
use Rattle.ordup_audit.specs.declared.verdict.Reason.TheVariants.{NotLegal, LimitsBroken, WindowLight, WindowsMeet, WindowBeforeReport}
use Rattle.ordup_audit.specs.declared.verdict.Reason.TheVariants.{CountDiffers}

not-true : (b : Bool) → not b ≡ true → b ≡ false
not-true true is = absurd (false≢true is)
not-true false is = refl

not-false : (b : Bool) → b ≡ false → not b ≡ true
not-false b is = rw is refl

-- a test that passes everywhere fails nowhere first
contradiction : (test : ℕ → Bool) (n k : ℕ) → PassesBelow test n → IsFirstFailure test n k → ⊥
contradiction test n k pass fails = true≢false (sym (pass k fails.there) ∙ fails.fails)

module _ (r : RecordState) (is : IsRecord r) where
  test : IsLimitTest (is_within r)
  test = in_force-test (history_of r) r.groups r.limits

  -- ---- what passes in a valid record

  -- the updates are legal one after the other where each of them is
  pub legal-history : AreUpdatesLegal r → IsLegalHistory (history_of r)
  legal-history pass = record {
    start = is.objects.values;
    sets = is.sets;
    known = rw (length-map r.objects (λ (e : List ℕ × ℤ). e.1)) is.known;
    legal = pass;
  }

  keeps-limits : ArePlacesWithin r → StaysWithin (is_within r) (report_at r.reports) (length r.sets) (full_rounds r.rounds)
  keeps-limits pass zero some le = absurd (omega arith)
  keeps-limits pass (suc k) some le = pass k (omega arith)

  limits-kept : StaysWithin (is_within r) (report_at r.reports) (length r.sets) (full_rounds r.rounds) → ArePlacesWithin r
  limits-kept keeps k lt = keeps (suc k) (omega arith) (omega arith)

  over-window : (j : ℕ) → j < length r.windows → is_window_over r j ≡ true → is_window_unreported r j ≡ true
      → IsWindow (is_within r) (report_at r.reports) (length r.sets) (window_at r j)
  over-window j lt over unreported =
      let w = window_at r j in
      let out : is_within r w.from w.to ≡ false = not-true (is_within r w.from w.to) over in
      record {
        forward = elim (cases_lt w.from w.to) [
          | inl forward ↦ forward
          | inr empty ↦ absurd (true≢false (sym (test.empty w.from w.to empty) ∙ out))
        ];
        last = (is.windows j (record { from = 0; to = 0 }) lt).1;
        over = out;
        unreported = leb-true (report_at r.reports w.to) w.from unreported;
      }

  default-at : (j : ℕ) (d : Window) → j < length r.windows → get_or r.windows j d ≡ window_at r j
  default-at j d lt = get_or_default r.windows j d (record { from = 0; to = 0 }) lt

  disjoint : AreWindowsOver r → AreWindowsApart r → AreWindowsUnreported r
      → AreDisjointWindows (is_within r) (report_at r.reports) (length r.sets) r.windows
  disjoint over apart unreported = record {
    each = λ j d lt. rw (default-at j d lt) (over-window j lt (over j lt) (unreported j lt));
    apart = λ j d lt. (
        let next : j + 1 ≡ suc j = omega arith in
        let here : is_window_apart r (suc j) ≡ true = apart (suc j) (omega arith) in
        rw (next, default-at j d (omega arith), default-at (suc j) d (omega arith))
        (leb-true (window_at r j).to (window_at r (suc j)).from here));
  }

  pub valid-from : AreUpdatesLegal r → ArePlacesWithin r → AreWindowsOver r → AreWindowsApart r → AreWindowsUnreported r
      → length r.windows ≡ length r.rounds → IsValid r
  valid-from legal places over apart unreported count = record {
    legal = legal-history legal;
    certificate = record {
      places = is.rounds;
      keeps = keeps-limits places;
      disjoint = disjoint over apart unreported;
      count = count;
    };
  }

  -- ---- and the other way round

  valid-window : IsValid r → (j : ℕ) → j < length r.windows
      → IsWindow (is_within r) (report_at r.reports) (length r.sets) (window_at r j)
  valid-window valid j lt = valid.certificate.disjoint.each j (record { from = 0; to = 0 }) lt

  valid-over : IsValid r → AreWindowsOver r
  valid-over valid j lt = not-false (is_within r (window_at r j).from (window_at r j).to) (valid-window valid j lt).over

  valid-apart : IsValid r → AreWindowsApart r
  valid-apart valid zero lt = le-leb 0 (window_at r 0).from (omega arith)
  valid-apart valid (suc j) lt =
      let next : j + 1 ≡ suc j = omega arith in
      let here : (window_at r j).to ≤ (window_at r (suc j)).from =
      rw next at (valid.certificate.disjoint.apart j (record { from = 0; to = 0 }) (omega arith)) in
      le-leb (window_at r j).to (window_at r (suc j)).from here

  valid-unreported : IsValid r → AreWindowsUnreported r
  valid-unreported valid j lt = le-leb (report_at r.reports (window_at r j).to) (window_at r j).from (valid-window valid j lt).unreported

  -- a valid record has no reason against it
  no-reason : IsValid r → (row : ℕ) (reason : Reason) → IsVerdict r (No row reason) → ⊥
  no-reason valid row NotLegal v = contradiction (is_update_legal r) (length r.sets) v.0 valid.legal.legal v.2
  no-reason valid row LimitsBroken v =
      contradiction (is_place_within r) (length r.sets) v.1.0 (limits-kept valid.certificate.keeps) v.1.1
  no-reason valid row WindowLight v = contradiction (is_window_over r) (length r.windows) v.2.0 (valid-over valid) v.2.1
  no-reason valid row WindowsMeet v = contradiction (is_window_apart r) (length r.windows) v.3.0 (valid-apart valid) v.3.1
  no-reason valid row WindowBeforeReport v =
      contradiction (is_window_unreported r) (length r.windows) v.4.0 (valid-unreported valid) v.4.1
  no-reason valid row CountDiffers v = v.5 valid.certificate.count

  -- ---- so what a verdict says of a record

  pub verdict-fewest : (v : Verdict) → IsVerdict r v → IfFewest v (λ n. IsValid r × (n ≡ length r.rounds))
  verdict-fewest (Fewest n) v = (valid-from v.0 v.1 v.2 v.3 v.4 v.5, v.6)
  verdict-fewest (No row reason) v = tt

  pub verdict-valid : (v : Verdict) → IsVerdict r v → IsValid r → v ≡ Fewest (length r.rounds)
  verdict-valid (Fewest n) v valid = ap Fewest v.6
  verdict-valid (No row reason) v valid = absurd (no-reason valid row reason v)

  pub verdict-no_fewer : (v : Verdict) → IsVerdict r v → IfFewest v (NoFewerRounds r)
  verdict-no_fewer (Fewest n) v =
      let valid : IsValid r = valid-from v.0 v.1 v.2 v.3 v.4 v.5 in
      λ p schedule keeps. rw v.6 (certified_rounds_are_fewest (is_within r) (report_at r.reports) (length r.sets) test r.rounds r.windows
      valid.certificate p schedule keeps)
  verdict-no_fewer (No row reason) v = tt
