-- What each line adds to a plan.
use Rattle.std.proofs.Common.{◌≡◌, ◌∙◌, refl, sym, ap, ℕ, ◌+◌, Bool, Option, Some, None, List, [], ◌∷◌}
use Rattle.std.proofs.Common.{true, false, ◌++◌, Result, Ok, Err, inl, inr}
use Rattle.ordup_objects.specs.declared.change.Change.{Change}
use Rattle.ordup_primary.specs.Declarations.{Declared}
use Rattle.ordup_grammar.specs.Commands.{Command}
use Rattle.ordup_grammar.specs.Requests.{Request, request_by, request_of}
use Rattle.ordup_grammar.specs.Lines.{Line}
use Rattle.ordup_script.specs.Plannings.{HasPlanned, HasRefused, LeadsTo, Tells, plan_state}
use Rattle.ordup_script.specs.PlanReadings.{ReadsInto, ReadsPlan}
use Rattle.ordup_script.specs.Plans.{request_in, words_in, first_plan, malformed, plan_of, plan_result, planned, planning}
use Rattle.ordup_script.specs.Readings.{Reads, Takes, TookOr}
use Rattle.ordup_script.specs.declared.line_reader.Extent.TheVariants as extent
use Rattle.ordup_answers.specs.Scripts.{after_lines, lines_of}
use Rattle.ordup_script.specs.Streams.{Input}
use Rattle.ordup_script.specs.declared.plan.Planning.{Planning}
use Rattle.ordup_script.specs.declared.plan.PlanFault.{PlanFault}
use Rattle.ordup_script.specs.declared.plan.PlanFault.TheVariants as fault
use Rattle.ordup_script.proofs.Output.{after_lines-append}
use Rattle.ordup_script.proofs.Plans.{completes}

-- the command of a line leads where what the line asks for does
pub asked_words : (d : Declared) (started : Bool) (sets : List (List Change)) (k : ℕ) (c : Option Command)
    → words_in d started sets (k + 1) c ≡ request_in (planning d started sets k) (request_by c)
asked_words d started sets k None = refl
asked_words d started sets k (Some c) = refl

-- a plan in which a line does not belong stays so
malformed-stays : (n : ℕ) (lines : List Line) → after_lines planned (malformed n) lines ≡ malformed n
malformed-stays n [] = refl
malformed-stays n (line ∷ lines) = malformed-stays n lines

-- one line more
planned_more : {A : Type 0} (before : Planning A) (request : Request) (line : Line) (earlier : List Line) → request ≡ request_of line
    → HasPlanned before earlier
    → request_in (plan_state before) request ≡ after_lines planned first_plan (earlier ++ line ∷ [])
planned_more before request line earlier is h =
    ap (λ s. request_in s request) h
    ∙ ap (request_in (after_lines planned first_plan earlier)) is
    ∙ sym (after_lines-append planned first_plan earlier (line ∷ []))

line_planned : {A : Type 0} (before after : Planning A) (request : Request) (line : Line) (earlier : List Line)
    (r : Result (Unit {0}) PlanFault) → request ≡ request_of line → LeadsTo after (request_in (plan_state before) request) r
    → HasPlanned before earlier
    → TookOr (λ (first now : Planning A) lines. HasPlanned now lines) (λ first now lines e. HasRefused lines e) before after
    (earlier ++ line ∷ []) r
line_planned before after request line earlier (Ok done) is leads h = leads ∙ planned_more before request line earlier is h
line_planned before after request line earlier (Err fault.Read) is leads h = absurd leads
line_planned before after request line earlier (Err fault.TooLong) is leads h = absurd leads
line_planned before after request line earlier (Err (fault.Malformed n)) is leads h = λ later.
    after_lines-append planned first_plan (earlier ++ line ∷ []) later
    ∙ ap (λ s. after_lines planned s later) (sym (planned_more before request line earlier is h) ∙ leads)
    ∙ malformed-stays n later
line_planned before after request line earlier (Err fault.NoMemory) is leads h = λ later. tt

pub takes_line : {A : Type 0} (before after : Planning A) (request : Request) (line : Line) (r : Result (Unit {0}) PlanFault)
    → request ≡ request_of line → LeadsTo after (request_in (plan_state before) request) r
    → Takes (λ (first now : Planning A) lines. HasPlanned now lines) (λ first now lines e. HasRefused lines e) before after
    (line ∷ []) r
takes_line before after request line r is leads = record {
  goes_on = λ first earlier h. line_planned before after request line earlier r is leads h;
}

-- where the lines that were read end in a fault, the reading does
pub ends_in_fault : {A : Type 0} (now : Planning A) (input : Input) (e : PlanFault)
    → Reads input (HasPlanned now) HasRefused (Err e)
    → ReadsPlan {A = A} input (Err e)
ends_in_fault now input fault.Read (script, consumed, inl each) = absurd (each [])
ends_in_fault now input fault.Read (script, consumed, inr end) = absurd end.2
ends_in_fault now input fault.TooLong (script, consumed, inl each) = absurd (each [])
ends_in_fault now input fault.TooLong (script, consumed, inr end) = absurd end.2
ends_in_fault now input (fault.Malformed n) (script, consumed, inl each) =
    (script, consumed, inl (λ rest. ap plan_result (each rest)))
ends_in_fault now input (fault.Malformed n) (script, consumed, inr (end, within, is)) = (
  script,
  consumed,
  inr (end, within, ap plan_result is),
)
ends_in_fault now input fault.NoMemory reads = tt

-- where all lines were taken, the reading ends as the plan does
pub ends_as_plan : {A : Type 0} (now : Planning A) (input : Input) (r : Result (Unit {0}) PlanFault)
    → Reads input (HasPlanned now) HasRefused (Ok extent.Whole)
    → Tells (plan_result (plan_state now)) now.plan r
    → ReadsInto input now.plan r
ends_as_plan now input (Ok done) (script, consumed, within, end, took) tells =
    let is : plan_of script ≡ Ok (now.plan.setup, now.plan.sets.items) = ap plan_result (sym took) ∙ tells in
    (script, consumed, within, end, is, completes (lines_of true script) _ _ is)
ends_as_plan now input (Err fault.Read) reads tells = absurd tells
ends_as_plan now input (Err fault.TooLong) reads tells = absurd tells
ends_as_plan now input (Err (fault.Malformed n)) (script, consumed, within, end, took) tells = (
  script,
  consumed,
  inr (end, within, ap plan_result (sym took) ∙ tells),
)
ends_as_plan now input (Err fault.NoMemory) reads tells = tt
