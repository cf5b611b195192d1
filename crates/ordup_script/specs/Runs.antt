-- What a run of a script over a reader and a writer leaves.
use Rattle.std.specs.Prelude.{ℕ, List, ◌<◌, ◌≤◌, length, take, IfSome, Result, Ok, Err}
use Rattle.std.specs.Io.KnownBytes.{Appends, Consumes, IsAtEnd}
use Rattle.ordup_answers.specs.declared.script_end.ScriptEnd.{ScriptEnd}
use Rattle.ordup_answers.specs.ScriptStates.{Stands}
use Rattle.ordup_script.specs.declared.stream.ScriptFault.{ScriptFault}
use Rattle.ordup_script.specs.declared.stream.ScriptFault.TheVariants as fault
use Rattle.ordup_text.specs.Fronts.{AppendsFront}
use Rattle.ordup_answers.specs.Output.{out, out_of_ended, state_after}
use Rattle.ordup_script.specs.Streams.{Streams}

-- the end is that of a run of this script
abbrev pub EndsAfter : {A : Type 0} → ScriptEnd A → List ℕ → Type 0
EndsAfter {A} end script = Stands end (state_after A script)

-- what was read, and what was written for it: all of it where the run ended well; after an error of the reader, and
-- where the script was too long, the answers to the lines that a line feed ended, within the limit; and else a prefix of
-- all that is written for what the reader had
abbrev pub Runs : {A : Type 0} → Streams → ℕ → Result (ScriptEnd A) ScriptFault → Type 0
Runs {A} s limit (Ok end) =
    (script : List ℕ)
    × Consumes s.had s.has script
    × (length script ≤ limit)
    × IsAtEnd s.has
    × Appends s.old s.new (out A script)
    × EndsAfter end script
Runs {A} s limit (Err fault.Read) =
    (script : List ℕ) × Consumes s.had s.has script × (length script ≤ limit) × Appends s.old s.new (out_of_ended A script)
Runs {A} s limit (Err fault.TooLong) =
    (script : List ℕ)
    × Consumes s.had s.has script
    × (limit < length script)
    × Appends s.old s.new (out_of_ended A (take limit script))
Runs {A} s limit (Err fault.Write) = IfSome s.had (λ script. AppendsFront s.old s.new (out A script))
Runs {A} s limit (Err fault.NoMemory) = IfSome s.had (λ script. AppendsFront s.old s.new (out A script))

-- a script was run to this end, or the run ends with a fault
abbrev pub RunsIn : {A : Type 0} → Streams → ℕ → ScriptEnd A → Result (Unit {0}) ScriptFault → Type 0
RunsIn s limit end (Ok done) = Runs s limit (Ok end)
RunsIn {A} s limit end (Err e) = Runs {A = A} s limit (Err e)
