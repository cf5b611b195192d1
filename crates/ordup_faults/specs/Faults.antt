-- Why a job was not done, the line that tells it, and its exit status.
use Rattle.std.specs.Prelude.{ℕ, List, ◌++◌, codes, Result, Ok, Err}
use Rattle.std.specs.Fmt.{decimal}
use Rattle.ordup_faults.specs.declared.fault.Fault.{Fault}
use Rattle.ordup_faults.specs.declared.fault.Fault.TheVariants as fault

-- 1 where a site does not agree with the log, or an update waits, 2 where there is no such site, 3 where the input or the output
-- failed or the script did not start, 4 where there was no memory
abbrev pub fault_status : Fault → ℕ
fault_status fault.Read = 3
fault_status fault.TooLong = 3
fault_status fault.Write = 3
fault_status (fault.Malformed row) = 3
fault_status (fault.MalformedRecord place row) = 3
fault_status fault.NotStarted = 3
fault_status fault.UnknownSite = 2
fault_status (fault.NotYet number) = 1
fault_status fault.Mixed = 1
fault_status fault.NoMemory = 4

-- the line that tells a fault
abbrev pub fault_text : Fault → List ℕ
fault_text fault.Read = codes "read fault\n"
fault_text fault.TooLong = codes "input too long\n"
fault_text fault.Write = codes "write fault\n"
fault_text (fault.Malformed row) = codes "malformed " ++ decimal row ++ codes "\n"
fault_text (fault.MalformedRecord place row) = codes "malformed " ++ decimal place ++ codes " " ++ decimal row ++ codes "\n"
fault_text fault.NotStarted = codes "refused 2 NotStarted\n"
fault_text fault.UnknownSite = codes "refused 8 UnknownSite\n"
fault_text (fault.NotYet number) = codes "refused 22 NotYet " ++ decimal number ++ codes "\n"
fault_text fault.Mixed = codes "refused 27 Mixed\n"
fault_text fault.NoMemory = codes "no memory\n"

-- how a job ends: with an exit status, or with a fault
abbrev pub Outcome : Type 0
Outcome = Result ℕ Fault

-- the exit status of a job that ended so
abbrev pub status_of : Outcome → ℕ
status_of (Ok status) = status
status_of (Err fault) = fault_status fault
