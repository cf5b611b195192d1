-- How a job that reads a record ends.
use Rattle.std.proofs.Common.{◌≡◌, ℕ, List, Option, Ok, Err, length}
use Rattle.ordup_audit.specs.Records.{RecordState}
use Rattle.ordup_audit.specs.Validity.{IsValid}
use Rattle.ordup_audit.specs.Verdicts.{IfFewest, IsVerdict}
use Rattle.ordup_audit.specs.declared.verdict.Verdict.{Verdict}
use Rattle.ordup_audit.specs.declared.verdict.Verdict.TheVariants.{Fewest, No}
use Rattle.ordup_lag.specs.Texts.{lag_text}
use Rattle.ordup_faults.specs.Faults.{Outcome}
use Rattle.ordup_verdicts.specs.Verdicts.{Checks, Judges, PrintsJudged, PrintsVerdict, ReadsRecord, verdict_status, verdict_text}
use Rattle.ordup_verdicts.specs.Lags.{Lags, PrintsLag}
use Rattle.ordup_faults.specs.Printing.{PrintsIfMemory}
use Rattle.ordup_faults.specs.declared.fault.Fault.{Fault}
use Rattle.ordup_faults.specs.declared.fault.Fault.TheVariants as fault

-- what the check of a record answers judges it
pub judged : (r : RecordState) (verdict : Verdict) → IsVerdict r verdict
    → IfFewest verdict (λ n. IsValid r × (n ≡ length r.rounds))
    → (IsValid r → verdict ≡ Fewest (length r.rounds))
    → Judges r verdict
judged r (Fewest n) is fewest valid = fewest
judged r (No row reason) is fewest valid = (λ h. let e = valid h in cc, is)

-- a valid record is one that the verdict calls so
pub called_valid : (r : RecordState) (verdict : Verdict) → IfFewest verdict (λ n. IsValid r × (n ≡ length r.rounds))
    → IfFewest verdict (λ n. IsValid r)
called_valid r (Fewest n) fewest = fewest.0
called_valid r (No row reason) fewest = tt

-- printing comes to no fault but that of a write, and want of memory, which leaves all as it was
abbrev pub LeavesAfter : Option (List ℕ) → Option (List ℕ) → Fault → Type 0
LeavesAfter old new fault.Write = Unit {0}
LeavesAfter old new fault.NoMemory = new ≡ old
LeavesAfter old new e = ⊥

print_leaves : (status : ℕ) (text : List ℕ) (old new : Option (List ℕ)) (f : Fault) → PrintsIfMemory status text old new (Err f)
    → LeavesAfter old new f
print_leaves status text old new fault.Write told = tt
print_leaves status text old new fault.NoMemory told = told
print_leaves status text old new fault.Read told = told
print_leaves status text old new fault.TooLong told = told
print_leaves status text old new (fault.Malformed row) told = told
print_leaves status text old new (fault.MalformedRecord place row) told = told
print_leaves status text old new fault.NotStarted told = told
print_leaves status text old new fault.UnknownSite told = told
print_leaves status text old new (fault.NotYet number) told = told
print_leaves status text old new fault.Mixed told = told

pub verdict_leaves : (r : RecordState) (verdict : Verdict) (old new : Option (List ℕ)) (f : Fault)
    → PrintsVerdict verdict old new (Err f) → LeavesAfter old new f
verdict_leaves r verdict old new f = print_leaves (verdict_status verdict) (verdict_text verdict) old new f

lag_leaves : (r : RecordState) (verdict : Verdict) (old new : Option (List ℕ)) (f : Fault)
    → PrintsLag r verdict old new (Err f) → LeavesAfter old new f
lag_leaves r (Fewest n) old new f = print_leaves 0 (lag_text r) old new f
lag_leaves r (No row reason) old new f = verdict_leaves r (No row reason) old new f

module _ (PrintsOf : RecordState → Verdict → Option (List ℕ) → Option (List ℕ) → Outcome → Type 0)
    (leaves : (r : RecordState) (verdict : Verdict) (old new : Option (List ℕ)) (f : Fault) → PrintsOf r verdict old new (Err f)
    → LeavesAfter old new f) where
  -- of a record that was judged something was printed, or not all of it
  pub printed : (had old new : Option (List ℕ)) (outcome : Outcome) → PrintsJudged PrintsOf had old new outcome
      → ReadsRecord PrintsOf had old new outcome
  printed had old new (Ok status) told = told
  printed had old new (Err fault.Write) told = told
  printed had old new (Err fault.NoMemory) told = leaves _ _ old new fault.NoMemory told.5
  printed had old new (Err fault.Read) told = absurd (leaves _ _ old new fault.Read told.5)
  printed had old new (Err fault.TooLong) told = absurd (leaves _ _ old new fault.TooLong told.5)
  printed had old new (Err (fault.Malformed row)) told = absurd (leaves _ _ old new (fault.Malformed row) told.5)
  printed had old new (Err (fault.MalformedRecord place row)) told = leaves _ _ old new (fault.MalformedRecord place row) told.5
  printed had old new (Err fault.NotStarted) told = leaves _ _ old new fault.NotStarted told.5
  printed had old new (Err fault.UnknownSite) told = leaves _ _ old new fault.UnknownSite told.5
  printed had old new (Err (fault.NotYet number)) told = leaves _ _ old new (fault.NotYet number) told.5
  printed had old new (Err fault.Mixed) told = leaves _ _ old new fault.Mixed told.5

pub verdict_printed : (had old new : Option (List ℕ)) (outcome : Outcome) → PrintsJudged (λ r verdict. PrintsVerdict verdict) had old new outcome
    → Checks had old new outcome
verdict_printed = printed (λ r verdict. PrintsVerdict verdict) verdict_leaves

pub lag_printed : (had old new : Option (List ℕ)) (outcome : Outcome) → PrintsJudged PrintsLag had old new outcome
    → Lags had old new outcome
lag_printed = printed PrintsLag lag_leaves
