-- Weights and spans on every scope.
use Rattle.std.specs.Prelude.{ℕ, ◌-◌, ◌<◌, ◌≡◌, ◌≤◌, List, length, sum_by}
use Rattle.ordup_objects.specs.declared.change.Change.{Change}
use Rattle.ordup_objects.specs.States.{value_at}
use Rattle.ordup_objects.specs.Serial.{History, serial, with_more}
use Rattle.ordup_objects.specs.Sums.{sum_from}
use Rattle.ordup_objects.specs.Weights.{distance, object_weight}
use Rattle.ordup_log.specs.Groups.{GroupList, members_at}
use Rattle.ordup_log.specs.declared.scope.Scope.{Scope}
use Rattle.ordup_log.specs.declared.scope.Scope.TheVariants.{Object, Group, All as Everything, Count}

-- the weight on a scope of the update after the first j
abbrev pub weight : History → GroupList → Scope → ℕ → ℕ
weight h groups (Object x) j = object_weight h x j
weight h groups (Group g) j = sum_by (λ x. object_weight h x j) (members_at groups g)
weight h groups Everything j = sum_from (λ x. object_weight h x j) 0 (length h.start)
weight h groups Count j = 1

-- the weight on a scope of the span from a to b: the sum over the places a + 1 to b
abbrev pub span : History → GroupList → Scope → ℕ → ℕ → ℕ
span h groups s a b = sum_from (weight h groups s) a (b - a)

-- the object or group of a scope is there
abbrev pub IsScopeKnown : ℕ → GroupList → Scope → Type 0
IsScopeKnown n groups (Object x) = x < n
IsScopeKnown n groups (Group g) = g < length groups
IsScopeKnown n groups Everything = Unit {0}
IsScopeKnown n groups Count = Unit {0}

-- a span inside another weighs no more
abbrev pub InnerSpansWeighLess : Type 0
InnerSpansWeighLess =
    (h : History) (groups : GroupList) (s : Scope) (a b c d : ℕ) → a ≤ b → c ≤ d → span h groups s b c ≤ span h groups s a d

-- updates that are added later leave the weights of spans as they were, on every scope
abbrev pub LongerHistoriesKeepSpans : Type 0
LongerHistoriesKeepSpans =
    (h : History) (more : List (List Change)) (groups : GroupList) (s : Scope) (a b : ℕ) → b ≤ length h.sets →
    span (with_more h more) groups s a b ≡ span h groups s a b

-- a value moves by no more than the span between weighs on its object
abbrev pub ValuesMoveBySpans : Type 0
ValuesMoveBySpans =
    (h : History) (groups : GroupList) (x a b : ℕ) → a ≤ b →
    distance (value_at (serial h b) x) (value_at (serial h a) x) ≤ span h groups (Object x) a b
