-- What printing the declarations of the successor of a script's store reads and prints.
use Rattle.std.specs.Prelude.{◌≡◌, Some, None, Ok, Err}
use Rattle.std.specs.declared.alloc.Global.{Global}
use Rattle.ordup_objects.specs.declared.refusal.Refusal.{Refusal}
use Rattle.ordup_objects.specs.declared.refusal.Refusal.TheVariants.{NotYet}
use Rattle.ordup_primary.specs.Declarations.{Declared}
use Rattle.ordup_primary.specs.Primaries.{PrimaryState}
use Rattle.ordup_primary.specs.Successors.{successor_refusal}
use Rattle.ordup_answers.specs.declared.script_end.ScriptEnd.TheVariants as end
use Rattle.ordup_script.specs.Runs.{Runs}
use Rattle.ordup_script.specs.Streams.{Bytes, Streams}
use Rattle.ordup_script.specs.declared.sizes.TheConstants.{MOST_SCRIPT_BYTES}
use Rattle.ordup_succession.specs.DeclaringLines.{declarations_text}
use Rattle.ordup_succession.specs.Ends.{IsSuccessor}
use Rattle.ordup_succession.specs.ReadingBack.{ReadsBack}
use Rattle.ordup_faults.specs.Faults.{Outcome}
use Rattle.ordup_faults.specs.Printing.{Prints}
use Rattle.ordup_faults.specs.declared.fault.Fault.{Fault}
use Rattle.ordup_faults.specs.declared.fault.Fault.TheVariants as fault
use Rattle.ordup_runs.specs.Answers.{RunEnd}
use Rattle.ordup_runs.specs.Faults.{fault_of_script}

-- the fault of a store that has no successor: an update that waits, or want of memory
abbrev pub fault_of_successor : Refusal → Fault
fault_of_successor (NotYet number) = fault.NotYet number
fault_of_successor e = fault.NoMemory

-- the declarations of the successor of a primary's store were printed, or nothing, where it has none
abbrev pub PrintsSuccessor : PrimaryState → Bytes → Bytes → Outcome → Type 0
PrintsSuccessor p old new (Err (fault.NotYet number)) = (successor_refusal p ≡ Some (NotYet number)) × (new ≡ old)
PrintsSuccessor p old new (Err fault.NoMemory) = (successor_refusal p ≡ None) × (new ≡ old)
PrintsSuccessor p old new outcome =
    (successor_refusal p ≡ None) × (d : Declared) × IsSuccessor p d × ReadsBack Global d × Prints 0 (declarations_text d) old new outcome

-- after a run that ended so the declarations of the successor were printed, or nothing where the run failed or no store started
abbrev pub PrintsAfterRun : RunEnd → Bytes → Bytes → Outcome → Type 0
PrintsAfterRun (Ok (end.Running world)) old new outcome = PrintsSuccessor world.primary old new outcome
PrintsAfterRun (Ok (end.Declared setup)) old new outcome = (outcome ≡ Err fault.NotStarted) × (new ≡ old)
PrintsAfterRun (Err fault) old new outcome = (outcome ≡ Err (fault_of_script fault)) × (new ≡ old)

-- a script was run from this reader with its answers left out, and then the declarations of the successor of its store were printed
abbrev pub DeclaresSuccessor : Streams → Outcome → Type 0
DeclaresSuccessor s outcome =
    (end : RunEnd)
    × Runs (record { had = s.had; has = s.has; old = None; new = None }) MOST_SCRIPT_BYTES end
    × PrintsAfterRun end s.old s.new outcome
