-- What printing the objects and groups that a record ends with reads and prints.
use Rattle.std.specs.Prelude.{◌≡◌, Err}
use Rattle.ordup_objects.specs.Tables.{Objects}
use Rattle.ordup_audit.specs.Records.{RecordState}
use Rattle.ordup_audit.specs.declared.verdict.Verdict.{Verdict}
use Rattle.ordup_audit.specs.declared.verdict.Verdict.TheVariants.{Fewest, No}
use Rattle.ordup_script.specs.Streams.{Bytes}
use Rattle.ordup_succession.specs.DeclaringLines.{object_lines}
use Rattle.ordup_series.specs.Ends.{AreObjectsAtEnd}
use Rattle.ordup_succession.specs.Lines.{lines_text}
use Rattle.ordup_faults.specs.Faults.{Outcome}
use Rattle.ordup_faults.specs.Printing.{Prints}
use Rattle.ordup_faults.specs.declared.fault.Fault.TheVariants as fault
use Rattle.ordup_verdicts.specs.Verdicts.{PrintsVerdict, ReadsRecord}

-- the declarations of the objects of a record, at their values after its last update, and of its groups were printed, or
-- nothing for want of memory
abbrev pub PrintsObjects : RecordState → Bytes → Bytes → Outcome → Type 0
PrintsObjects r old new (Err fault.NoMemory) = new ≡ old
PrintsObjects r old new outcome =
    (objects : Objects) × AreObjectsAtEnd r objects × Prints 0 (lines_text (object_lines objects r.groups)) old new outcome

-- of a record that was judged so these were printed, or the line of the verdict where it is not valid
abbrev pub PrintsEnd : RecordState → Verdict → Bytes → Bytes → Outcome → Type 0
PrintsEnd r (Fewest n) = PrintsObjects r
PrintsEnd r (No row reason) = PrintsVerdict (No row reason)

abbrev pub DeclaresEnd : Bytes → Bytes → Bytes → Outcome → Type 0
DeclaresEnd = ReadsRecord PrintsEnd
