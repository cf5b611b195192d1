-- What the program does with its words.
use Rattle.std.specs.Prelude.{◌≡◌, ◌⊎◌, ℕ, Ok, Err}
use Rattle.ordup_text.specs.Fronts.{AppendsFront}
use Rattle.ordup_command_line.specs.declared.command_line.Job.{Job}
use Rattle.ordup_script.specs.Streams.{Bytes, Streams}
use Rattle.ordup_faults.specs.Faults.{Outcome, fault_text, status_of}
use Rattle.ordup_cli.specs.Jobs.{Does}

-- nothing was told of a job that was done, and of any other the line of its fault, or a prefix of it
abbrev pub IsTold : Bytes → Bytes → Outcome → Type 0
IsTold old new (Ok status) = new ≡ old
IsTold old new (Err fault) = AppendsFront old new (fault_text fault)

-- no job was done: the help or the version was printed, or it could not be; or the words were wrong, or there was no memory to
-- look at them, and nothing was printed
abbrev pub IsUsage : Bytes → Bytes → ℕ → Type 0
IsUsage old new status = ((status ≡ 0) ⊎ (status ≡ 3)) ⊎ (((status ≡ 2) ⊎ (status ≡ 4)) × (new ≡ old))

-- a job was done over the input and the output, the faults grew by what it noted, and then by how it ended, and the status says so
-- too; or no job was done, and nothing was read
abbrev pub Acts : Streams → Bytes → Bytes → ℕ → Type 0
Acts s before after status =
    ((job : Job)
    × (outcome : Outcome)
    × (noted : Bytes)
    × Does job s before noted outcome
    × IsTold noted after outcome
    × (status ≡ status_of outcome))
    ⊎ ((s.has ≡ s.had) × IsUsage s.old s.new status)
