-- What a plan comes to is complete.
use Rattle.std.proofs.Common.{◌≡◌, refl, subst, arith, ℕ, ◌+◌, Bool, true, false, List, [], ◌∷◌}
use Rattle.std.proofs.Common.{◌++◌, length, Option, Some, None, Result, Ok, Err, inl, inr}
use Rattle.std.specs.Prelude.{IfOk}
use Rattle.std.proofs.lemmas.Bool.{cases_Bool}
use Rattle.std.proofs.lemmas.Grind.{common_steps}
use Rattle.std.proofs.lemmas.List.Elements.{All-nil, All-push}
use Rattle.ordup_objects.specs.declared.change.Change.{Change}
use Rattle.ordup_objects.specs.declared.refusal.Refusal.{Refusal}
use Rattle.ordup_objects.specs.Sets.{AreKnown, IsSet, set_refusal}
use Rattle.ordup_primary.specs.Declarations.{Declared, is_ready, start_refusal}
use Rattle.ordup_grammar.specs.Lines.{Line}
use Rattle.ordup_grammar.specs.Actions as action
use Rattle.ordup_grammar.specs.Commands.{Command, Declare, Start, Certify, Act}
use Rattle.ordup_grammar.specs.Requests.{Request, request_of}
use Rattle.ordup_grammar.specs.Requests as request
use Rattle.ordup_answers.specs.Changes.{changes_in}
use Rattle.ordup_answers.specs.Declaring.{with_declaration}
use Rattle.ordup_answers.specs.Refusals.{unless}
use Rattle.ordup_script.specs.Plans.{IsPlan, PlanState, belongs_as, command_in, first_plan}
use Rattle.ordup_script.specs.Plans.{malformed, plan_result, planned, planning, request_in}
use Rattle.ordup_answers.specs.Scripts.{after_lines}

-- before the start there is no set; after it the plan is complete
abbrev IsSound : PlanState → Type 0
IsSound (planning d false sets k) = sets ≡ []
IsSound (planning d true sets k) = IsPlan d sets
IsSound (malformed n) = Unit {0}

sound_after : {T : Type 0} (k : ℕ) (next : T → PlanState) (r : Result T Refusal) → ((x : T) → r ≡ Ok x → IsSound (next x))
    → IsSound (belongs_as k next r)
sound_after k next (Ok x) each = each x refl
sound_after k next (Err e) each = tt

is_set : (n : ℕ) (m : List Change) → set_refusal n m ≡ None → IsSet m × AreKnown n m
is_set n m allowed = (
  record {
    some = grind (arith, common_steps);
    few = grind (arith, common_steps);
    numbers = grind (arith, common_steps);
    distinct = grind (arith, common_steps);
  },
  grind (arith, common_steps),
)

-- it can start
started : (d : Declared) (sets : List (List Change)) (k : ℕ) → sets ≡ []
    → IsSound (belongs_as k (λ e. planning e true sets k) (unless (start_refusal d) d))
started d sets k none = elim (cases_Bool (is_ready d)) [
  | inl is ↦ rw is (is, rw none (All-nil _))
  | inr is ↦ rw is tt
]

-- one set more
proposed : (d : Declared) (sets : List (List Change)) (k : ℕ) (m : List Change) (r : Option Refusal)
    → set_refusal (length d.objects) m ≡ r → IsPlan d sets
    → IsSound (belongs_as k (λ set. planning d true (sets ++ set ∷ []) k) (unless r m))
proposed d sets k m None allowed (ready, each) = (
  ready,
  All-push (λ (m : List Change). IsSet m × AreKnown (length d.objects) m) sets m each (is_set (length d.objects) m allowed),
)
proposed d sets k m (Some e) refused sound = tt

sound_command : (d : Declared) (started : Bool) (sets : List (List Change)) (k : ℕ) (c : Command) → IsSound (planning d started sets k)
    → IsSound (command_in d started sets k c)
sound_command d false sets k (Declare x) sound = sound_after k (λ e. planning e false sets k) (with_declaration d x) (λ e is. sound)
sound_command d false sets k Start sound = started d sets k sound
sound_command d false sets k (Certify s) sound = tt
sound_command d false sets k (Act a) sound = tt
sound_command d true sets k (Declare x) sound = tt
sound_command d true sets k Start sound = tt
sound_command d true sets k (Certify s) sound = tt
sound_command d true sets k (Act (action.Propose changes)) sound = proposed d sets k (changes_in d.objects changes) _ refl sound
sound_command d true sets k (Act a) sound = tt

sound_later : (d : Declared) (started : Bool) (sets : List (List Change)) (k j : ℕ) → IsSound (planning d started sets k)
    → IsSound (planning d started sets j)
sound_later d true sets k j sound = sound
sound_later d false sets k j sound = sound

sound_request : (s : PlanState) (r : Request) → IsSound s → IsSound (request_in s r)
sound_request (malformed n) r sound = tt
sound_request (planning d started sets k) request.Nothing sound = sound_later d started sets k (k + 1) sound
sound_request (planning d started sets k) request.NoCommand sound = tt
sound_request (planning d started sets k) (request.Command c) sound =
    sound_command d started sets (k + 1) c (sound_later d started sets k (k + 1) sound)

sound_lines : (s : PlanState) (lines : List Line) → IsSound s → IsSound (after_lines planned s lines)
sound_lines s [] sound = sound
sound_lines s (line ∷ lines) sound = sound_lines (planned s line) lines (sound_request s (request_of line) sound)

sound_result : (s : PlanState) → IsSound s → IfOk (plan_result s) (λ p. IsPlan p.0 p.1)
sound_result (malformed n) sound = tt
sound_result (planning d true sets k) sound = sound
sound_result (planning d false sets k) sound = tt

-- what some lines come to
pub completes : (lines : List Line) (d : Declared) (sets : List (List Change))
    → plan_result (after_lines planned first_plan lines) ≡ Ok (d, sets)
    → IsPlan d sets
completes lines d sets is = subst (λ r. IfOk r (λ p. IsPlan p.0 p.1)) is (sound_result _ (sound_lines first_plan lines refl))
