-- What the scopes that cross to C and from it stand for.
use Rattle.std.specs.Prelude.{ℕ, ◌==◌, if◌then◌else◌, Option, Some, nat_lt}
use Rattle.ordup_objects.specs.declared.refusal.Refusal.{Refusal}
use Rattle.ordup_objects.specs.declared.refusal.Refusal.TheVariants.{Syntax}
use Rattle.ordup_log.specs.Groups.{GroupList}
use Rattle.ordup_log.specs.declared.scope.Scope.{Scope}
use Rattle.ordup_log.specs.declared.scope.Scope.TheVariants.{Object, Group, All, Count}
use Rattle.ordup_limits.specs.Limits.{scope_refusal}
use Rattle.ordup_shapes.specs.declared.scope.TheConstants.{OF_OBJECT, OF_GROUP, OF_ALL, OF_COUNT}

-- the scope of this kind, on the object or group of this number
abbrev pub scope_of : ℕ → ℕ → Scope
scope_of kind id =
    if kind == OF_OBJECT then Object id else
    if kind == OF_GROUP then Group id else
    if kind == OF_ALL then All else Count

-- why a scope over n objects and these groups is refused, if it is
abbrev pub code_refusal : ℕ → GroupList → ℕ → ℕ → Option Refusal
code_refusal n groups kind id = if nat_lt OF_COUNT kind then Some Syntax else scope_refusal n groups (scope_of kind id)

-- the kind of a scope
abbrev pub kind_of : Scope → ℕ
kind_of (Object x) = OF_OBJECT
kind_of (Group g) = OF_GROUP
kind_of All = OF_ALL
kind_of Count = OF_COUNT

-- the number of its object or group, or 0
abbrev pub id_of : Scope → ℕ
id_of (Object x) = x
id_of (Group g) = g
id_of All = 0
id_of Count = 0
