-- What a call for the declarations of the successor leaves and answers.
use Rattle.std.specs.Prelude.{◌≡◌, ◌⊎◌, ℕ, List, [], length, Option, Some, None}
use Rattle.std.specs.declared.alloc.Global.{Global}
use Rattle.ordup_answers.specs.declared.script_end.ScriptEnd.{ScriptEnd}
use Rattle.ordup_answers.specs.declared.script_end.ScriptEnd.TheVariants.{Declared, Running}
use Rattle.ordup_succession.specs.Ends.{DeclaresSuccessor}
use Rattle.ordup_primary.specs.Successors.{successor_refusal}
use Rattle.ordup_c.specs.Records.{Copies, Lacks}
use Rattle.ordup_c.specs.declared.session.Session.{Session}
use Rattle.ordup_c.specs.declared.status.TheConstants.{DONE, CLOSED, NO_MEMORY, NOT_STARTED, NOT_YET}

-- the text declares the successor, and reads back as it
abbrev pub Declares : ScriptEnd Global → List ℕ → Type 0
Declares (Declared setup) text = ⊥
Declares (Running world) text = DeclaresSuccessor Global world.primary [] text × (successor_refusal world.primary ≡ None)

-- why there is no successor: no store started, or an update is not acknowledged; or memory was refused
abbrev pub IsUndeclared : ScriptEnd Global → ℕ → Type 0
IsUndeclared (Declared setup) status = status ≡ NOT_STARTED
IsUndeclared (Running world) status = ((successor_refusal world.primary ≡ None → ⊥) × (status ≡ NOT_YET)) ⊎ (status ≡ NO_MEMORY)

-- of the declarations the length was told, and the text written where it fits; or there are none
abbrev pub TellsNext : ScriptEnd Global → List ℕ → List ℕ → ℕ → ℕ → Type 0
TellsNext end old new written status =
    ((text : List ℕ) × Declares end text × (written ≡ length text) × Copies text DONE old new status)
    ⊎ ((reason : ℕ) × IsUndeclared end reason × Lacks reason old new written status)

-- the declarations were asked for
abbrev pub NextCall : Option Session → List ℕ → List ℕ → ℕ → ℕ → Type 0
NextCall None old new written status = Lacks CLOSED old new written status
NextCall (Some v) old new written status = TellsNext v.script old new written status
