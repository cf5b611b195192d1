-- What running a script reads, prints and notes where its refusals are explained or count, and how that ends.
use Rattle.std.specs.Prelude.{◌≡◌, ◌&&◌, Bool, true, if◌then◌else◌, None, Result, Ok, Err}
use Rattle.std.specs.declared.alloc.Global.{Global}
use Rattle.ordup_answers.specs.declared.script_end.ScriptEnd.{ScriptEnd}
use Rattle.ordup_script.specs.Explanations.{Explains, end_in, refused_in}
use Rattle.ordup_script.specs.Runs.{Runs}
use Rattle.ordup_script.specs.Streams.{Bytes, Streams}
use Rattle.ordup_script.specs.declared.sizes.TheConstants.{MOST_SCRIPT_BYTES}
use Rattle.ordup_script.specs.declared.stream.ScriptFault.{ScriptFault}
use Rattle.ordup_faults.specs.Faults.{Outcome}
use Rattle.ordup_runs.specs.Faults.{fault_of_script}

-- the outcome of a run by whether a line was refused: status 1 where one was and that counts
abbrev pub outcome_of_refusals : Bool → Result Bool ScriptFault → Outcome
outcome_of_refusals strictly (Ok refused) = Ok (if strictly && refused then 1 else 0)
outcome_of_refusals strictly (Err fault) = Err (fault_of_script fault)

-- a script was run over these streams, what is written for it was written, and its refused lines were noted
abbrev pub AnswersExplained : Bool → Streams → Bytes → Bytes → Outcome → Type 0
AnswersExplained strictly s old new outcome =
    (end : Result (ScriptEnd Global × Bool) ScriptFault)
    × Runs s MOST_SCRIPT_BYTES (end_in end)
    × Explains Global (record { had = s.had; has = s.has; old = old; new = new }) MOST_SCRIPT_BYTES (refused_in end)
    × (outcome ≡ outcome_of_refusals strictly (refused_in end))

-- a script was run over these streams, what is written for it was written, and its refused lines count; no note is known
abbrev pub AnswersStrictly : Streams → Outcome → Type 0
AnswersStrictly s outcome = AnswersExplained true s None None outcome
