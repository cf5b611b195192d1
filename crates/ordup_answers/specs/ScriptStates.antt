-- The state of a script between two lines.
use Rattle.std.specs.Prelude.{◌≡◌, []}
use Rattle.ordup_primary.specs.Declarations.{Declared}
use Rattle.ordup_world.specs.Events.{Past}
use Rattle.ordup_world.specs.Worlds.{WorldState, StandsFor}
use Rattle.ordup_answers.specs.declared.script_end.ScriptEnd.{ScriptEnd}
use Rattle.ordup_answers.specs.declared.script_end.ScriptEnd.TheVariants as variant

-- what was declared and, of a started store, the accepted events, the newest first
pub data ScriptState (A : Type 0) : Type 0 where
  declaring : Declared → ScriptState A
  running : Declared → Past A → ScriptState A

-- the state in which a script begins
abbrev pub first_state : {A : Type 0} → ScriptState A
first_state = declaring (record { objects = []; groups = []; sites = []; limits = [] })

-- the setup is that of the state
abbrev pub Declares : {A : Type 0} → Declared → ScriptState A → Type 0
Declares setup (declaring d) = setup ≡ d
Declares setup (running d past) = ⊥

-- the world stands for what was declared and for the accepted events
abbrev pub IsWorldOf : {A : Type 0} → WorldState → ScriptState A → Type 0
IsWorldOf w (declaring d) = ⊥
IsWorldOf w (running d past) = StandsFor d w past

-- the script is in this state
abbrev pub Stands : {A : Type 0} → ScriptEnd A → ScriptState A → Type 0
Stands (variant.Declared setup) s = Declares setup s
Stands (variant.Running world) s = IsWorldOf world s
