-- Conditions of an update, and which of them a state does not meet.
use Rattle.std.specs.Prelude.{◌<◌, ◌≤ℤ◌, ℕ, ℤ, not, if◌then◌else◌, Option, Some, None, IfSome, Bool, List}
use Rattle.std.specs.Prelude.{length, take, nat_lt, int_le, slice_get, All}
use Rattle.std.specs.List.{list_all, position}
use Rattle.ordup_objects.specs.declared.refusal.Refusal.{Refusal}
use Rattle.ordup_objects.specs.declared.refusal.Refusal.TheVariants.{UnknownObject}
use Rattle.ordup_objects.specs.States.{State, value_at}
use Rattle.ordup_conditions.specs.declared.condition.Bound.{Bound}
use Rattle.ordup_conditions.specs.declared.condition.Bound.TheVariants.{AtLeast, AtMost}
use Rattle.ordup_conditions.specs.declared.condition.Condition.{Condition}

-- a value keeps a bound
abbrev pub keeps_bound : ℤ → Bound → Bool
keeps_bound z (AtLeast n) = int_le n z
keeps_bound z (AtMost n) = int_le z n

-- a state meets a condition where the value of its object keeps the bound
abbrev pub is_met : State → Condition → Bool
is_met v c = keeps_bound (value_at v c.object) c.bound

-- the index of the first condition that a state does not meet
abbrev pub first_unmet : State → List Condition → Option ℕ
first_unmet v cs = position (λ c. not (is_met v c)) cs

-- a value keeps a bound, as a fact
abbrev pub KeepsBound : ℤ → Bound → Type 0
KeepsBound z (AtLeast n) = n ≤ℤ z
KeepsBound z (AtMost n) = z ≤ℤ n

-- a state meets a condition, as a fact
abbrev pub IsMet : State → Condition → Type 0
IsMet v c = KeepsBound (value_at v c.object) c.bound

-- a state meets all conditions
abbrev pub AreMet : State → List Condition → Type 0
AreMet v cs = All (IsMet v) cs

-- a state does not meet the condition at an index, and meets all before it
pub record IsFirstUnmet (v : State) (cs : List Condition) (i : ℕ) : Type 0 where
  pub within : i < length cs
  pub unmet : IfSome (slice_get cs i) (λ c. ¬ IsMet v c)
  pub before : AreMet v (take i cs)

-- the objects of all conditions are among the first n
abbrev pub are_conditions_known : ℕ → List Condition → Bool
are_conditions_known n cs = list_all (λ c. nat_lt c.object n) cs

-- why conditions on n objects are refused, if they are
abbrev pub condition_refusal : ℕ → List Condition → Option Refusal
condition_refusal n cs = if not (are_conditions_known n cs) then Some UnknownObject else None

-- the objects of all conditions are among the first n, as a fact
abbrev pub AreConditionsKnown : ℕ → List Condition → Type 0
AreConditionsKnown n cs = All (λ c. c.object < n) cs
