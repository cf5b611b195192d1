-- What the jobs that judge a record read and print, and the verdict as a line.
use Rattle.std.specs.Prelude.{◌≡◌, ℕ, ◌≤◌, List, ◌++◌, codes, length, Option, IfSome, Ok, Err}
use Rattle.std.specs.Fmt.{decimal}
use Rattle.csv.specs.Reading.{strip_bom}
use Rattle.ordup_audit.specs.Records.{RecordState}
use Rattle.ordup_audit.specs.Validity.{IsValid}
use Rattle.ordup_audit.specs.Reasons.{reason_name}
use Rattle.ordup_audit.specs.Verdicts.{IsVerdict}
use Rattle.ordup_audit.specs.declared.verdict.Verdict.{Verdict}
use Rattle.ordup_audit.specs.declared.verdict.Verdict.TheVariants.{Fewest, No}
use Rattle.ordup_rows.specs.Sizes.{most_record_bytes}
use Rattle.ordup_rows.specs.Texts.{TextTells}
use Rattle.ordup_check.specs.Limits.{IsMalformedWithin}
use Rattle.ordup_faults.specs.Faults.{Outcome}
use Rattle.ordup_faults.specs.Printing.{PrintsIfMemory}
use Rattle.ordup_faults.specs.declared.fault.Fault.TheVariants as fault

-- the line that shows a verdict
abbrev pub verdict_text : Verdict → List ℕ
verdict_text (Fewest n) = codes "yes " ++ decimal n ++ codes "\n"
verdict_text (No row reason) = codes "no " ++ decimal row ++ codes " " ++ reason_name reason ++ codes "\n"

-- the exit status that goes with a verdict
abbrev pub verdict_status : Verdict → ℕ
verdict_status (Fewest n) = 0
verdict_status (No row reason) = 1

-- the line of a verdict was printed, or nothing for want of memory
abbrev pub PrintsVerdict : Verdict → Option (List ℕ) → Option (List ℕ) → Outcome → Type 0
PrintsVerdict verdict = PrintsIfMemory (verdict_status verdict) (verdict_text verdict)

-- the verdict on a record: the number of its rounds where it is valid, and else the first reason against it and its row
abbrev pub Judges : RecordState → Verdict → Type 0
Judges r (Fewest n) = IsValid r × (n ≡ length r.rounds)
Judges r (No row reason) = (IsValid r → ⊥) × IsVerdict r (No row reason)

-- the text is not too long, the record that it tells was judged, and this was printed of both
abbrev pub PrintsJudged : (RecordState → Verdict → Option (List ℕ) → Option (List ℕ) → Outcome → Type 0)
    → Option (List ℕ) → Option (List ℕ) → Option (List ℕ) → Outcome → Type 0
PrintsJudged PrintsOf had old new outcome =
    (r : RecordState) × (verdict : Verdict)
    × IfSome had (λ text. length text ≤ most_record_bytes)
    × IfSome had (λ text. TextTells (strip_bom text) r)
    × Judges r verdict
    × PrintsOf r verdict old new outcome

-- A record was read from these bytes and judged, and this was printed of both. Nothing was written where no record could be read.
abbrev pub ReadsRecord : (RecordState → Verdict → Option (List ℕ) → Option (List ℕ) → Outcome → Type 0)
    → Option (List ℕ) → Option (List ℕ) → Option (List ℕ) → Outcome → Type 0
ReadsRecord PrintsOf had old new (Ok status) = PrintsJudged PrintsOf had old new (Ok status)
ReadsRecord PrintsOf had old new (Err fault.Write) = PrintsJudged PrintsOf had old new (Err fault.Write)
ReadsRecord PrintsOf had old new (Err (fault.Malformed row)) =
    IfSome had (λ text. IsMalformedWithin most_record_bytes text row) × (new ≡ old)
ReadsRecord PrintsOf had old new (Err fault.Read) = new ≡ old
ReadsRecord PrintsOf had old new (Err fault.NoMemory) = new ≡ old
ReadsRecord PrintsOf had old new (Err e) = ⊥

-- the verdict is printed
abbrev pub Checks : Option (List ℕ) → Option (List ℕ) → Option (List ℕ) → Outcome → Type 0
Checks = ReadsRecord (λ r verdict. PrintsVerdict verdict)
