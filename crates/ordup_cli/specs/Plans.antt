-- What running a plan in threads reads and prints.
use Rattle.std.specs.Prelude.{◌≡◌, ℕ, List, length, Result, Ok, Err}
use Rattle.std.specs.declared.alloc.Global.{Global}
use Rattle.ordup_objects.specs.declared.refusal.Refusal.{Refusal}
use Rattle.ordup_objects.specs.declared.refusal.Refusal.TheVariants.{NoMemory}
use Rattle.ordup_script.specs.PlanReadings.{ReadsPlan}
use Rattle.ordup_script.specs.Streams.{Bytes, Streams}
use Rattle.ordup_script.specs.declared.sizes.TheConstants.{MOST_SCRIPT_BYTES}
use Rattle.ordup_script.specs.declared.plan.Plan.{Plan}
use Rattle.ordup_script.specs.declared.plan.PlanFault.{PlanFault}
use Rattle.ordup_script.specs.declared.plan.PlanFault.TheVariants as plan
use Rattle.ordup_plan.specs.Outcomes.{IsOutcome}
use Rattle.ordup_faults.specs.Faults.{Outcome}
use Rattle.ordup_faults.specs.Printing.{Prints}
use Rattle.ordup_faults.specs.declared.fault.Fault.{Fault}
use Rattle.ordup_faults.specs.declared.fault.Fault.TheVariants as fault

-- the fault of reading a plan
abbrev pub fault_of_plan : PlanFault → Fault
fault_of_plan plan.Read = fault.Read
fault_of_plan plan.TooLong = fault.TooLong
fault_of_plan (plan.Malformed line) = fault.Malformed line
fault_of_plan plan.NoMemory = fault.NoMemory

-- the fault of a plan that was run and has no outcome: want of memory, or else a site that does not agree with the log
abbrev pub fault_of : Refusal → Fault
fault_of NoMemory = fault.NoMemory
fault_of e = fault.Mixed

-- what a run of this plan printed: the outcome of a store of its declarations; or nothing, where it has none
abbrev pub PrintsOutcome : Result (List ℕ) Refusal → Plan Global → Bytes → Bytes → Outcome → Type 0
PrintsOutcome (Ok text) plan old new outcome =
    IsOutcome (record { before = 0; start = plan.setup }) (length plan.sets.items) text × Prints 0 text old new outcome
PrintsOutcome (Err e) plan old new outcome = (outcome ≡ Err (fault_of e)) × (new ≡ old)

-- after a plan was read it was run, and what came of its sets was printed; or nothing, where no plan was read
abbrev pub PrintsAfterPlan : Result (Plan Global) PlanFault → Bytes → Bytes → Outcome → Type 0
PrintsAfterPlan (Ok plan) old new outcome =
    (run : Result (List ℕ) Refusal) × PrintsOutcome run plan old new outcome
PrintsAfterPlan (Err fault) old new outcome = (outcome ≡ Err (fault_of_plan fault)) × (new ≡ old)

-- a plan was read from this reader, and its outcome printed
abbrev pub RunsPlan : Streams → Outcome → Type 0
RunsPlan s outcome =
    (read : Result (Plan Global) PlanFault)
    × ReadsPlan (record { had = s.had; has = s.has; limit = MOST_SCRIPT_BYTES }) read
    × PrintsAfterPlan read s.old s.new outcome
