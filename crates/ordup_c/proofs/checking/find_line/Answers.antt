-- A line that is pushed into an empty text is all of it, and says what the check came to.
-- One that is not pushed was refused memory.
use Rattle.std.proofs.Common.{◌≡◌, ◌++◌, ◌<◌, [], ℕ, List, Ok, length, sym, subst, inl, inr, refl}
use Rattle.std.specs.Prelude.{◌⊎◌, MatchResult, OnOk, Result}
use Rattle.std.proofs.lemmas.Result.{MatchResult-weaker}
use Rattle.ordup_audit.specs.Records.{RecordState}
use Rattle.ordup_audit.specs.Validity.{IsValid}
use Rattle.ordup_audit.specs.Verdicts.{IfFewest, IsVerdict}
use Rattle.ordup_audit.specs.declared.verdict.Verdict.{Verdict}
use Rattle.ordup_audit.specs.declared.verdict.Verdict.TheVariants.{Fewest, No}
use Rattle.ordup_rows.specs.Sizes.{most_record_bytes}
use Rattle.ordup_c.specs.Checks.{Finds, Judges, malformed_line, verdict_line}
use Rattle.ordup_c.specs.declared.status.TheConstants.{NO_MEMORY, TOO_LONG}
use Rattle.ordup_c.proofs.PushedLines.{pushed_line}
use Rattle.ordup_c.proofs.checking.find_line.Goals as goal

-- what the check of a record answers judges it
judged : (r : RecordState) (verdict : Verdict) → IsVerdict r verdict → IfFewest verdict (λ n. IsValid r × (n ≡ length r.rounds))
    → (IsValid r → verdict ≡ Fewest (length r.rounds))
    → Judges r verdict
judged r (Fewest n) is fewest valid = fewest
judged r (No row reason) is fewest valid = (λ h. let e = valid h in cc, is)

-- what is found where a line is
found_line : {E : Type 0} (r : Result ℕ ℕ) (pushed : Result (Unit {0}) E) (status : ℕ) (text line : List ℕ)
    → MatchResult r (λ found. (pushed ≡ Ok tt) × (found ≡ status)) (λ e. e ≡ NO_MEMORY)
    → (pushed ≡ Ok tt → Finds text line status)
    → MatchResult r (λ found. Finds text line found) (λ e. (e ≡ NO_MEMORY) ⊎ ((most_record_bytes < length text) × (e ≡ TOO_LONG)))
found_line r pushed status text line is finds =
    MatchResult-weaker r is (λ found h. subst (Finds text line) (sym h.1) (finds h.0)) (λ e h. inl h)

pub returns-in-Ok : goal.returns-in-Ok
returns-in-Ok c =
    let r = c.in-Ok.audited in
    let verdict = c.check-verdict.result in
    let line = c.push_verdict.new.out.text in
    found_line c.found.result c.push_verdict.result _ c.args.rows.now line c.found.ensures (λ ok.
    inl (
      (
        r,
        verdict,
        c.in-Ok.ensures.limited,
        c.in-Ok.ensures.read,
        judged r verdict c.check-verdict.ensures.verdict c.check-verdict.ensures.fewest c.check-verdict.ensures.valid,
        pushed_line c.push_verdict.result c.args.line.now.text line (verdict_line verdict) c.push_verdict.ensures c.requires ok,
      ),
      refl,
    ))

pub returns-in-Err-Malformed : goal.returns-in-Err-Malformed
returns-in-Err-Malformed c =
    let row = c.in-Err-Malformed.row in
    let line = c.push_malformed.new.out.text in
    found_line c.found-in-Err-Malformed.result c.push_malformed.result _ c.args.rows.now line c.found-in-Err-Malformed.ensures (λ ok.
    inr (
      (
        row,
        c.in-Err-Malformed.ensures.malformed row c.in-Err-Malformed.field-0-is,
        pushed_line c.push_malformed.result c.args.line.now.text line (malformed_line row) c.push_malformed.ensures c.requires ok,
      ),
      refl,
    ))
