-- The statuses of refusals, and why a change of a limit is refused.
use Rattle.std.proofs.Common.{◌≡◌, ◌∙◌, ℕ, Bool, true, false, if◌then◌else◌, nat_lt, length, refl, sym, ap, Option, Some, None}
use Rattle.ordup_objects.specs.declared.refusal.Refusal.{Refusal}
use Rattle.ordup_objects.specs.declared.refusal.Refusal.TheVariants.{Syntax}
use Rattle.ordup_objects.specs.Refusals.{IsRefusal}
use Rattle.ordup_log.specs.declared.scope.Scope.{Scope}
use Rattle.ordup_limits.specs.Limits.{scope_refusal}
use Rattle.ordup_primary.specs.LimitChanges.{limit_change_refusal}
use Rattle.ordup_primary.specs.Primaries.{PrimaryState, site_view}
use Rattle.ordup_shapes.specs.Scopes.{code_refusal, scope_of}
use Rattle.ordup_shapes.specs.declared.scope.TheConstants.{OF_COUNT}
use Rattle.ordup_shared.specs.Books.{relimit_refusal}
use Rattle.ordup_shared.specs.Statuses.{IsRefused, status_of}

-- the status of an error is that of the reason
pub is_refused : (r : Option Refusal) (e : Refusal) → IsRefusal r e → IsRefused r (status_of e)
is_refused None e is = ap status_of is
is_refused (Some r) e is = ap status_of is

-- a reason that stands behind another one, where there is no such other
behind : (b : Bool) (x y : Option Refusal) → (if b then Some Syntax else x) ≡ None → (if b then Some Syntax else y) ≡ y
behind true x y is = absurd cc
behind false x y is = refl

-- a change of a limit on a known scope is refused as the hold refuses it
pub relimit_known : (p : PrimaryState) (site kind id amount : ℕ) → code_refusal (length p.setup.objects) p.setup.groups kind id ≡ None
    → relimit_refusal p site kind id amount ≡ limit_change_refusal (site_view p site) (scope_of kind id) amount
relimit_known p site kind id amount is =
    behind (nat_lt OF_COUNT kind) (scope_refusal (length p.setup.objects) p.setup.groups (scope_of kind id)) _ is

pub relimit_allowed : (p : PrimaryState) (site kind id amount : ℕ) (scope : Scope)
    → code_refusal (length p.setup.objects) p.setup.groups kind id ≡ None → scope ≡ scope_of kind id
    → limit_change_refusal (site_view p site) scope amount ≡ None → relimit_refusal p site kind id amount ≡ None
relimit_allowed p site kind id amount scope known is allowed =
    relimit_known p site kind id amount known ∙ ap (λ s. limit_change_refusal (site_view p site) s amount) (sym is) ∙ allowed

pub relimit_refused : (p : PrimaryState) (site kind id amount : ℕ) (scope : Scope) (e : Refusal)
    → code_refusal (length p.setup.objects) p.setup.groups kind id ≡ None → scope ≡ scope_of kind id
    → IsRefusal (limit_change_refusal (site_view p site) scope amount) e → IsRefusal (relimit_refusal p site kind id amount) e
relimit_refused p site kind id amount scope e known is refused =
    rw (relimit_known p site kind id amount known) (rw (sym is) refused)
