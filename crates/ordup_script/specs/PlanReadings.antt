-- What reading a plan leaves.
use Rattle.std.specs.Prelude.{◌≡◌, ◌⊎◌, ℕ, false, List, ◌++◌, ◌<◌, ◌≤◌, length, take, Result, Ok, Err}
use Rattle.std.specs.Io.KnownBytes.{Consumes, IsAtEnd}
use Rattle.ordup_script.specs.declared.plan.Plan.{Plan}
use Rattle.ordup_script.specs.declared.plan.PlanFault.{PlanFault}
use Rattle.ordup_script.specs.declared.plan.PlanFault.TheVariants as fault
use Rattle.ordup_script.specs.Plans.{PlanState, IsPlan, planning, malformed, planned, first_plan, plan_of}
use Rattle.ordup_answers.specs.Scripts.{after_lines, lines_of}
use Rattle.ordup_script.specs.Streams.{Input}

-- each line so far belongs
abbrev pub Belongs : PlanState → Type 0
Belongs (planning d started sets k) = Unit {0}
Belongs (malformed n) = ⊥

-- what was read, and what it is as a plan: all of it where there is one; or a line within the limit does not belong,
-- however the text goes on, or at its end; after an error of the reader, and where the text is too long, the lines that a
-- line feed ended belong, within the limit
abbrev pub ReadsPlan : {A : Type 0} → Input → Result (Plan A) PlanFault → Type 0
ReadsPlan input (Ok plan) =
    (script : List ℕ)
    × Consumes input.had input.has script
    × (length script ≤ input.limit)
    × IsAtEnd input.has
    × (plan_of script ≡ Ok (plan.setup, plan.sets.items))
    × IsPlan plan.setup plan.sets.items
ReadsPlan input (Err (fault.Malformed n)) =
    (script : List ℕ)
    × Consumes input.had input.has script
    × (((rest : List ℕ) → plan_of (take input.limit script ++ rest) ≡ Err n)
    ⊎ (IsAtEnd input.has × (length script ≤ input.limit) × (plan_of script ≡ Err n)))
ReadsPlan input (Err fault.Read) =
    (script : List ℕ)
    × Consumes input.had input.has script
    × (length script ≤ input.limit)
    × Belongs (after_lines planned first_plan (lines_of false script))
ReadsPlan input (Err fault.TooLong) =
    (script : List ℕ)
    × Consumes input.had input.has script
    × (input.limit < length script)
    × Belongs (after_lines planned first_plan (lines_of false (take input.limit script)))
ReadsPlan input (Err fault.NoMemory) = Unit {0}

-- a text was read to this plan, or the reading ends with a fault
abbrev pub ReadsInto : {A : Type 0} → Input → Plan A → Result (Unit {0}) PlanFault → Type 0
ReadsInto input plan (Ok done) = ReadsPlan input (Ok plan)
ReadsInto {A} input plan (Err e) = ReadsPlan {A = A} input (Err e)
