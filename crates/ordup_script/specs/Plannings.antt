-- Where the code stands in a plan.
use Rattle.std.specs.Prelude.{◌≡◌, ℕ, List, Option, Result, Ok, Err}
use Rattle.ordup_grammar.specs.Commands.{Command}
use Rattle.ordup_grammar.specs.Lines.{Line}
use Rattle.ordup_objects.specs.declared.change.Change.{Change}
use Rattle.ordup_primary.specs.Declarations.{Declared}
use Rattle.ordup_script.specs.declared.plan.Plan.{Plan}
use Rattle.ordup_script.specs.declared.plan.Planning.{Planning}
use Rattle.ordup_script.specs.declared.plan.PlanFault.{PlanFault}
use Rattle.ordup_script.specs.declared.plan.PlanFault.TheVariants as fault
use Rattle.ordup_script.specs.Plans.{PlanState, planning, malformed, planned, first_plan, words_in}
use Rattle.ordup_answers.specs.Scripts.{after_lines}

-- the state of a plan by the fields that stand for it
abbrev pub plan_state : {A : Type 0} → Planning A → PlanState
plan_state p = planning p.plan.setup p.is_started p.plan.sets.items p.lines

-- where it stands once it follows the command that the words of its last line spell, if they spell one
abbrev pub follows : {A : Type 0} → Planning A → Option Command → PlanState
follows p command = words_in p.plan.setup p.is_started p.plan.sets.items p.lines command

-- these lines of a plan, its first, were taken
abbrev pub HasPlanned : {A : Type 0} → Planning A → List Line → Type 0
HasPlanned now lines = plan_state now ≡ after_lines planned first_plan lines

-- the plan stands so now; or the line is the first that does not belong
abbrev pub LeadsTo : {A : Type 0} → Planning A → PlanState → Result (Unit {0}) PlanFault → Type 0
LeadsTo now s (Ok done) = plan_state now ≡ s
LeadsTo now s (Err fault.Read) = ⊥
LeadsTo now s (Err fault.TooLong) = ⊥
LeadsTo now s (Err (fault.Malformed n)) = s ≡ malformed n
LeadsTo now s (Err fault.NoMemory) = Unit {0}

-- this is the plan; or no line of this number belongs
abbrev pub Tells : {A : Type 0} → Result (Declared × List (List Change)) ℕ → Plan A → Result (Unit {0}) PlanFault → Type 0
Tells told plan (Ok done) = told ≡ Ok (plan.setup, plan.sets.items)
Tells told plan (Err fault.Read) = ⊥
Tells told plan (Err fault.TooLong) = ⊥
Tells told plan (Err (fault.Malformed n)) = told ≡ Err n
Tells told plan (Err fault.NoMemory) = ⊥

-- the fault of these lines of a plan, its first: one of them does not belong
abbrev pub HasRefused : List Line → PlanFault → Type 0
HasRefused lines fault.Read = ⊥
HasRefused lines fault.TooLong = ⊥
HasRefused lines (fault.Malformed n) = after_lines planned first_plan lines ≡ malformed n
HasRefused lines fault.NoMemory = Unit {0}
