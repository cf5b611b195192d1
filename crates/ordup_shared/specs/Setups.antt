-- What the calls on declarations leave and answer.
use Rattle.std.specs.Prelude.{◌≡◌, ◌⊎◌, ℕ, ℤ, List, [], length, map, min, nat_lt, Option, Some, None, if◌then◌else◌}
use Rattle.ordup_objects.specs.declared.refusal.Refusal.{Refusal}
use Rattle.ordup_objects.specs.declared.refusal.Refusal.TheVariants.{Syntax}
use Rattle.ordup_objects.specs.Tables.{object_refusal}
use Rattle.ordup_log.specs.Groups.{group_refusal}
use Rattle.ordup_primary.specs.Declarations.{Declared, with_object, with_group, with_site, with_limit, site_refusal, site_limit_refusal}
use Rattle.ordup_shapes.specs.Scopes.{scope_of}
use Rattle.ordup_shapes.specs.declared.scope.TheConstants.{OF_COUNT}
use Rattle.ordup_shared.specs.Statuses.{IsRefused}
use Rattle.ordup_shared.specs.declared.status.TheConstants.{DONE, NO_MEMORY}

-- nothing is declared
abbrev pub nothing_declared : Declared
nothing_declared = record { objects = []; groups = []; sites = []; limits = [] }

-- Something was declared, and its number told; or it is refused for this reason, and nothing changed.
abbrev pub Declares : Declared → Declared → Declared → ℕ → ℕ → ℕ → Option Refusal → ℕ → Type 0
Declares old new wanted number old_id new_id refusal status =
    ((status ≡ DONE) × (refusal ≡ None) × (new ≡ wanted) × (new_id ≡ number))
    ⊎ (IsRefused refusal status × (new ≡ old) × (new_id ≡ old_id))

-- an object
abbrev pub DeclaresObject : Declared → Declared → List ℕ → ℤ → ℕ → ℕ → ℕ → Type 0
DeclaresObject d e name initial old_id new_id status =
    Declares d e (with_object d name initial) (length d.objects) old_id new_id (object_refusal d.objects name initial) status

-- a site
abbrev pub DeclaresSite : Declared → Declared → List ℕ → ℕ → ℕ → ℕ → ℕ → Type 0
DeclaresSite d e name capacity old_id new_id status =
    Declares d e (with_site d name capacity) (length d.sites) old_id new_id (site_refusal d.sites name capacity) status

-- the number of an object as a member of a group: a number above 65,535 is as 65,535, of which no store has an object
abbrev pub member_of : ℕ → ℕ
member_of object = min object 65535

-- a group of these members
abbrev pub DeclaresMembers : Declared → Declared → List ℕ → List ℕ → ℕ → ℕ → ℕ → Type 0
DeclaresMembers d e name members old_id new_id status =
    Declares d e (with_group d name members) (length d.groups) old_id new_id (group_refusal (length d.objects) d.groups name members) status

-- a group of the objects of these numbers, which may be refused memory whatever the reason against it
abbrev pub DeclaresGroup : Declared → Declared → List ℕ → List ℕ → ℕ → ℕ → ℕ → Type 0
DeclaresGroup d e name objects old_id new_id status =
    DeclaresMembers d e name (map member_of objects) old_id new_id status ⊎ ((status ≡ NO_MEMORY) × (e ≡ d) × (new_id ≡ old_id))

-- why a limit is refused, if it is
abbrev pub limit_refusal : Declared → ℕ → ℕ → ℕ → ℕ → Option Refusal
limit_refusal d site kind id amount =
    if nat_lt OF_COUNT kind then Some Syntax else site_limit_refusal d site (scope_of kind id) amount

-- a limit
abbrev pub DeclaresLimit : Declared → Declared → ℕ → ℕ → ℕ → ℕ → ℕ → Type 0
DeclaresLimit d e site kind id amount status =
    ((status ≡ DONE) × (limit_refusal d site kind id amount ≡ None) × (e ≡ with_limit d site (scope_of kind id) amount))
    ⊎ (IsRefused (limit_refusal d site kind id amount) status × (e ≡ d))
