-- What printing the lag of a record reads and prints.
use Rattle.std.specs.Prelude.{ℕ, List, Option}
use Rattle.ordup_audit.specs.Records.{RecordState}
use Rattle.ordup_audit.specs.declared.verdict.Verdict.{Verdict}
use Rattle.ordup_audit.specs.declared.verdict.Verdict.TheVariants.{Fewest, No}
use Rattle.ordup_lag.specs.Texts.{lag_text}
use Rattle.ordup_faults.specs.Faults.{Outcome}
use Rattle.ordup_faults.specs.Printing.{PrintsIfMemory}
use Rattle.ordup_verdicts.specs.Verdicts.{PrintsVerdict, ReadsRecord}

-- the lag of a record was printed, or nothing for want of memory
abbrev pub PrintsLagText : RecordState → Option (List ℕ) → Option (List ℕ) → Outcome → Type 0
PrintsLagText r = PrintsIfMemory 0 (lag_text r)

-- of a record that was judged so the lag was printed, or the line of the verdict where it is not valid
abbrev pub PrintsLag : RecordState → Verdict → Option (List ℕ) → Option (List ℕ) → Outcome → Type 0
PrintsLag r (Fewest n) = PrintsLagText r
PrintsLag r (No row reason) = PrintsVerdict (No row reason)

abbrev pub Lags : Option (List ℕ) → Option (List ℕ) → Option (List ℕ) → Outcome → Type 0
Lags = ReadsRecord PrintsLag
