-- What answering leaves.
use Rattle.std.specs.Prelude.{◌≡◌, ℕ, List, [], Result, OnOk, IfErr}
use Rattle.ordup_primary.specs.Declarations.{Declared}
use Rattle.ordup_world.specs.Events.{Past}
use Rattle.ordup_world.specs.Worlds.{WorldState, StandsFor}
use Rattle.ordup_world.specs.declared.event.Event.{Event}
use Rattle.ordup_answers.specs.ScriptStates.{ScriptState, IsWorldOf}
use Rattle.ordup_answers.specs.Replies.{Reply, event_reply}

-- the state is the reply's, and the reply's text was taken
abbrev pub Leaves : {A : Type 0} → (ScriptState A → Type 0) → (List ℕ → Type 0) → Reply A → Type 0
Leaves IsState Took given = IsState given.0 × Took given.1

module _ {A E : Type 0} where
  -- where it succeeds: if the script was in a state, it is in the one that the reply leaves, and the reply's text was taken
  abbrev pub Replies : (ScriptState A → Type 0) → (ScriptState A → Type 0) → (List ℕ → Type 0) → (ScriptState A → Reply A)
      → Result (Unit {0}) E → Type 0
  Replies Was Is Took reply result = OnOk result ((s : ScriptState A) → Was s → Leaves Is Took (reply s))

  -- where it succeeds: if the world stood for events, it stands for them and this one, whose answer's text was taken
  abbrev pub Steps : WorldState → WorldState → (List ℕ → Type 0) → List ℕ × List ℕ → Event A → Result (Unit {0}) E → Type 0
  Steps old new Took names e result =
      OnOk result ((d : Declared) (past : Past A) → StandsFor d old past → Leaves (IsWorldOf new) Took (event_reply d past names e))

-- where it fails nothing happened, and nothing was taken
abbrev pub StaysPut : {S E : Type 0} → S → S → (List ℕ → Type 0) → Result (Unit {0}) E → Type 0
StaysPut old new Took result = IfErr result (λ _. (new ≡ old) × Took [])
