-- What running a script reads and prints, and how that ends.
use Rattle.std.specs.Prelude.{◌≡◌, Result, Ok, Err}
use Rattle.std.specs.declared.alloc.Global.{Global}
use Rattle.ordup_answers.specs.declared.script_end.ScriptEnd.{ScriptEnd}
use Rattle.ordup_script.specs.Runs.{Runs}
use Rattle.ordup_script.specs.Streams.{Streams}
use Rattle.ordup_script.specs.declared.sizes.TheConstants.{MOST_SCRIPT_BYTES}
use Rattle.ordup_script.specs.declared.stream.ScriptFault.{ScriptFault}
use Rattle.ordup_faults.specs.Faults.{Outcome}
use Rattle.ordup_runs.specs.Faults.{fault_of_script}

-- how a run ended: with the store's declarations or its world, or with a fault
abbrev pub RunEnd : Type 0
RunEnd = Result (ScriptEnd Global) ScriptFault

-- the outcome of a run that ended so
abbrev pub outcome_of_run : RunEnd → Outcome
outcome_of_run (Ok end) = Ok 0
outcome_of_run (Err fault) = Err (fault_of_script fault)

-- a script was run over these streams, and what is written for it was written
abbrev pub Answers : Streams → Outcome → Type 0
Answers s outcome = (end : RunEnd) × Runs s MOST_SCRIPT_BYTES end × (outcome ≡ outcome_of_run end)
