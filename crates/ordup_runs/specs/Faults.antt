-- The faults of scripts and of records that are written, as those of a job.
use Rattle.ordup_rows.specs.declared.writing.RecordWriteFault.{RecordWriteFault}
use Rattle.ordup_rows.specs.declared.writing.RecordWriteFault.TheVariants as writing
use Rattle.ordup_script.specs.declared.stream.ScriptFault.{ScriptFault}
use Rattle.ordup_script.specs.declared.stream.ScriptFault.TheVariants as script
use Rattle.ordup_faults.specs.declared.fault.Fault.{Fault}
use Rattle.ordup_faults.specs.declared.fault.Fault.TheVariants as fault

-- the fault of a script
abbrev pub fault_of_script : ScriptFault → Fault
fault_of_script script.Read = fault.Read
fault_of_script script.TooLong = fault.TooLong
fault_of_script script.Write = fault.Write
fault_of_script script.NoMemory = fault.NoMemory

-- the fault of writing a record
abbrev pub fault_of_writing : RecordWriteFault → Fault
fault_of_writing writing.Write = fault.Write
fault_of_writing writing.NoMemory = fault.NoMemory
