-- Plans: declarations, the start, and then proposals alone.
use Rattle.std.specs.Prelude.{◌≡◌, ℕ, ◌+◌, Bool, true, false, List, [], ◌∷◌}
use Rattle.std.specs.Prelude.{◌++◌, All, length, Option, Some, None, Result, Ok, Err, if◌then◌else◌}
use Rattle.ordup_objects.specs.declared.change.Change.{Change}
use Rattle.ordup_objects.specs.declared.refusal.Refusal.{Refusal}
use Rattle.ordup_objects.specs.Sets.{AreKnown, IsSet}
use Rattle.ordup_primary.specs.Declarations.{Declared, is_ready, start_refusal}
use Rattle.ordup_grammar.specs.Lines.{Line}
use Rattle.ordup_answers.specs.Scripts.{after_lines, lines_of}
use Rattle.ordup_grammar.specs.Actions.{Propose}
use Rattle.ordup_grammar.specs.Commands.{Command, Declare, Start, Act}
use Rattle.ordup_grammar.specs.Requests.{Request, request_of}
use Rattle.ordup_grammar.specs.Requests as request
use Rattle.ordup_answers.specs.Changes.{set_in}
use Rattle.ordup_answers.specs.Declaring.{with_declaration}
use Rattle.ordup_answers.specs.Refusals.{unless}

-- where a plan stands after some lines: what is declared, whether it is started, the sets, and how many lines there were;
-- or the number of the first line that does not belong
pub data PlanState : Type 0 where
  planning : Declared → Bool → List (List Change) → ℕ → PlanState
  malformed : ℕ → PlanState

-- line k belongs where it is not refused
abbrev pub belongs_as : {T : Type 0} → ℕ → (T → PlanState) → Result T Refusal → PlanState
belongs_as k next (Ok x) = next x
belongs_as k next (Err r) = malformed k

-- after line k, by its command: a declaration or the start before the start, and a proposal after it
abbrev pub command_in : Declared → Bool → List (List Change) → ℕ → Command → PlanState
command_in d false sets k (Declare x) = belongs_as k (λ e. planning e false sets k) (with_declaration d x)
command_in d false sets k Start = belongs_as k (λ e. planning e true sets k) (unless (start_refusal d) d)
command_in d true sets k (Act (Propose changes)) =
    belongs_as k (λ set. planning d true (sets ++ set ∷ []) k) (set_in d.objects changes)
command_in d started sets k _ = malformed k

-- after line k, by the command that its words spell, if they spell one
abbrev pub words_in : Declared → Bool → List (List Change) → ℕ → Option Command → PlanState
words_in d started sets k None = malformed k
words_in d started sets k (Some c) = command_in d started sets k c

-- after one line more, by what it asks for
abbrev pub request_in : PlanState → Request → PlanState
request_in (malformed n) r = malformed n
request_in (planning d started sets k) request.Nothing = planning d started sets (k + 1)
request_in (planning d started sets k) request.NoCommand = malformed (k + 1)
request_in (planning d started sets k) (request.Command c) = command_in d started sets (k + 1) c

-- after one line more
abbrev pub planned : PlanState → Line → PlanState
planned s line = request_in s (request_of line)

-- before the first line
abbrev pub first_plan : PlanState
first_plan = planning (record { objects = []; groups = []; sites = []; limits = [] }) false [] 0

-- what the lines of a plan come to: its setup and its sets, or the number of the first line that does not belong; without
-- a start that is the one after the last
abbrev pub plan_result : PlanState → Result (Declared × List (List Change)) ℕ
plan_result (malformed n) = Err n
plan_result (planning d started sets k) = if started then Ok (d, sets) else Err (k + 1)

-- the plan that a text is, or the number of the first line that does not belong
abbrev pub plan_of : List ℕ → Result (Declared × List (List Change)) ℕ
plan_of script = plan_result (after_lines planned first_plan (lines_of true script))

-- a store can start with what is declared, and each set is a message set over its objects
abbrev pub IsPlan : Declared → List (List Change) → Type 0
IsPlan d sets = (is_ready d ≡ true) × All (λ m. IsSet m × AreKnown (length d.objects) m) sets
