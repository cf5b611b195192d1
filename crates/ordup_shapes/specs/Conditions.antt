-- What the conditions that cross from C stand for.
use Rattle.std.specs.Prelude.{ℕ, ◌==◌, min, not, if◌then◌else◌, Option, Some, Bool, List, map, nat_le}
use Rattle.std.specs.List.{list_all}
use Rattle.ordup_conditions.specs.Conditions.{condition_refusal}
use Rattle.ordup_conditions.specs.declared.condition.Condition.{Condition}
use Rattle.ordup_conditions.specs.declared.condition.Bound.TheVariants.{AtLeast, AtMost}
use Rattle.ordup_objects.specs.declared.refusal.Refusal.{Refusal}
use Rattle.ordup_objects.specs.declared.refusal.Refusal.TheVariants.{Syntax}
use Rattle.ordup_shapes.specs.Changes.{greatest_object}
use Rattle.ordup_shapes.specs.declared.condition.RawCondition.{RawCondition}
use Rattle.ordup_shapes.specs.declared.condition.TheConstants.{AT_LEAST, AT_MOST}

-- the condition that it stands for: an object's number above 65,535 is as 65,535, of which no store has an object
abbrev pub condition_of : RawCondition → Condition
condition_of raw = record {
  object = min raw.object greatest_object;
  bound = if raw.bound == AT_LEAST then AtLeast raw.number else AtMost raw.number;
}

-- its code is that of a bound
abbrev pub has_bound : RawCondition → Bool
has_bound raw = nat_le raw.bound AT_MOST

-- why conditions on n objects are refused, if they are
abbrev pub conditions_refusal : ℕ → List RawCondition → Option Refusal
conditions_refusal n raws = if not (list_all has_bound raws) then Some Syntax else condition_refusal n (map condition_of raws)
