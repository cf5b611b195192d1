-- A line that is pushed says what the audit came to. One that is not pushed was refused memory.
use Rattle.std.proofs.Common.{◌≡◌, ℕ, List, Ok, inl, inr, refl, subst, sym}
use Rattle.std.specs.Prelude.{MatchResult, Result}
use Rattle.std.proofs.lemmas.Result.{MatchResult-weaker}
use Rattle.ordup_c.specs.Checks.{FindsSeries, malformed_record_line, series_line}
use Rattle.ordup_c.specs.declared.status.TheConstants.{NO_MEMORY}
use Rattle.ordup_c.proofs.PushedLines.{pushed_line}
use Rattle.ordup_c.proofs.checking.find_series_line.Goals as goal

found_line : {E : Type 0} (r : Result ℕ ℕ) (pushed : Result (Unit {0}) E) (status : ℕ) (text line : List ℕ)
    → MatchResult r (λ found. (pushed ≡ Ok tt) × (found ≡ status)) (λ e. e ≡ NO_MEMORY)
    → (pushed ≡ Ok tt → FindsSeries text line status)
    → MatchResult r (λ found. FindsSeries text line found) (λ e. e ≡ NO_MEMORY)
found_line r pushed status text line is finds =
    MatchResult-weaker r is (λ found h. subst (FindsSeries text line) (sym h.1) (finds h.0)) (λ e h. h)

pub returns-in-Ok : goal.returns-in-Ok
returns-in-Ok c =
    let verdict = c.in-Ok.verdict in
    let line = c.push_series_verdict.new.out.text in
    found_line c.found.result c.push_series_verdict.result _ c.args.rows.now line c.found.ensures (λ ok.
    inl (
      verdict,
      c.in-Ok.ensures.verdict,
      pushed_line c.push_series_verdict.result c.args.line.now.text line (series_line verdict) c.push_series_verdict.ensures c.requires ok,
      refl,
    ))

pub returns-in-Err-Malformed : goal.returns-in-Err-Malformed
returns-in-Err-Malformed c =
    let place = c.in-Err-Malformed.record in
    let row = c.in-Err-Malformed.row in
    let line = c.push_malformed_record.new.out.text in
    found_line c.found-in-Err-Malformed.result c.push_malformed_record.result _ c.args.rows.now line c.found-in-Err-Malformed.ensures (λ ok.
    inr (
      place,
      row,
      c.in-Err-Malformed.ensures.malformed place row c.in-Err-Malformed.field-0-is,
      pushed_line c.push_malformed_record.result c.args.line.now.text line (malformed_record_line place row) c.push_malformed_record.ensures
          c.requires ok,
      refl,
    ))
