-- Declarations that are read back.
use Rattle.std.specs.Prelude.{◌≡◌, []}
use Rattle.ordup_primary.specs.Declarations.{Declared}
use Rattle.ordup_answers.specs.ScriptStates.{running}
use Rattle.ordup_answers.specs.Output.{state_after}
use Rattle.ordup_succession.specs.DeclaringLines.{declarations_text}

-- these lines, run as a script, declare the store and start it
abbrev pub ReadsBack : Type 0 → Declared → Type 0
ReadsBack A d = state_after A (declarations_text d) ≡ running d []
