-- What printing the record of a site reads and prints, and how that ends.
use Rattle.std.specs.Prelude.{◌≡◌, ℕ, List, Option, Some, None, Ok, Err}
use Rattle.ordup_objects.specs.Tables.{index_of}
use Rattle.ordup_primary.specs.Primaries.{PrimaryState}
use Rattle.ordup_audit.specs.Records.{RecordState}
use Rattle.ordup_record.specs.RecordsOf.{record_of}
use Rattle.ordup_rows.specs.Rows.{rows_of, rows_text}
use Rattle.ordup_answers.specs.declared.script_end.ScriptEnd.TheVariants as end
use Rattle.ordup_script.specs.Runs.{Runs}
use Rattle.ordup_script.specs.Streams.{Bytes, Streams}
use Rattle.ordup_script.specs.declared.sizes.TheConstants.{MOST_SCRIPT_BYTES}
use Rattle.ordup_faults.specs.Faults.{Outcome}
use Rattle.ordup_faults.specs.Printing.{PrintsIfMemory}
use Rattle.ordup_faults.specs.declared.fault.Fault.TheVariants as fault
use Rattle.ordup_runs.specs.Faults.{fault_of_script}
use Rattle.ordup_runs.specs.Answers.{RunEnd}

-- the rows of a record were printed, or nothing for want of memory
abbrev pub PrintsRecord : RecordState → Bytes → Bytes → Outcome → Type 0
PrintsRecord r = PrintsIfMemory 0 (rows_text (rows_of r))

-- the record of what the primary has of this site was printed, or nothing where it has no such site
abbrev pub PrintsSite : PrimaryState → Option ℕ → Bytes → Bytes → Outcome → Type 0
PrintsSite p None old new outcome = (outcome ≡ Err fault.UnknownSite) × (new ≡ old)
PrintsSite p (Some s) old new outcome = PrintsRecord (record_of p s) old new outcome

-- after a run that ended so the record of the site of this name was printed, or nothing where the run failed or no store started
abbrev pub PrintsAfter : List ℕ → RunEnd → Bytes → Bytes → Outcome → Type 0
PrintsAfter site (Ok (end.Running world)) old new outcome =
    PrintsSite world.primary (index_of site world.primary.setup.sites) old new outcome
PrintsAfter site (Ok (end.Declared setup)) old new outcome = (outcome ≡ Err fault.NotStarted) × (new ≡ old)
PrintsAfter site (Err fault) old new outcome = (outcome ≡ Err (fault_of_script fault)) × (new ≡ old)

-- a script was run from this reader with its answers left out, and then the record of the site of this name was printed
abbrev pub Records : List ℕ → Streams → Outcome → Type 0
Records site s outcome =
    (end : RunEnd)
    × Runs (record { had = s.had; has = s.has; old = None; new = None }) MOST_SCRIPT_BYTES end
    × PrintsAfter site end s.old s.new outcome
