-- The tests are those of the definition, in its order: what the table of limits refuses, then the head, then the lag.
use Rattle.std.proofs.Common.{arith, ap, sym, subst, length, get_or, ◌≡◌, ◌∙◌, ◌<◌, ◌+◌, []}
use Rattle.std.proofs.lemmas.List.{get_or_read}
use Rattle.std.proofs.lemmas.Result.{err_from_is_err_and}
use Rattle.ordup_limits.specs.Entries.{HoldFrom}
use Rattle.ordup_primary.specs.Primaries.{limits_at}
use Rattle.ordup_primary.specs.PrimaryInside.{state_of}
use Rattle.ordup_primary.proofs.RelimitLemmas.{table-refused, pending-refused}
use Rattle.ordup_primary.proofs.primary.Primary.check_relimit.Goals as goal

pub overflow_add-head : goal.overflow_add-head
overflow_add-head g c =
    let is = c.self.invariant.primary in
    omega (arith, is.acked, is.decided, is.few)

pub check_change-requires : goal.check_change-requires
check_change-requires g c =
    let is = c.self.invariant.primary in
    let inside : c.index.result < length c.self.inside.limits.items =
    omega (arith, rw (← c.self.view_is) at c.requires, c.index.ensures, is.tables) in
    subst (HoldFrom (c.self.inside.acked + 1)) (sym c.index-limits.ensures) (is.begun c.index.result c.index-limits.result.now inside)

pub returns-in_err-check_change-clause-refused : goal.returns-in_err-check_change-clause-refused
returns-in_err-check_change-clause-refused g c =
    let p = state_of c.self.inside in
    let inside : c.index.result < length c.self.inside.limits.items =
    omega (arith, rw (← c.self.view_is) at c.requires, c.index.ensures, c.self.invariant.primary.tables) in
    let read : c.index-limits.result.now ≡ limits_at p c.args.site =
    get_or_read c.self.inside.limits.items c.index.result c.index-limits.result.now inside c.index-limits.ensures []
    ∙ ap (λ k. get_or c.self.inside.limits.items k []) c.index.ensures in
    let refused = rw (c.objects.ensures, c.groups.ensures.groups, read) at c.in_err-check_change.ensures.refused in
    let failed = err_from_is_err_and c.from_residual.result c.from_residual.ensures.1 in
    rw (failed.1, failed.2, ← c.self.view_is) (table-refused p c.args.site c.args.scope.now c.args.amount c.in_err-check_change.field-0.0 refused)

pub returns-then-self-clause-refused : goal.returns-then-self-clause-refused
returns-then-self-clause-refused g c =
    let p = state_of c.self.inside in
    let inside : c.index.result < length c.self.inside.limits.items =
    omega (arith, rw (← c.self.view_is) at c.requires, c.index.ensures, c.self.invariant.primary.tables) in
    let read : c.index-limits.result.now ≡ limits_at p c.args.site =
    get_or_read c.self.inside.limits.items c.index.result c.index-limits.result.now inside c.index-limits.ensures []
    ∙ ap (λ k. get_or c.self.inside.limits.items k []) c.index.ensures in
    let allowed = rw (c.objects.ensures, c.groups.ensures.groups, read) at c.in_ok-check_change.ensures.allowed in
    rw (← c.self.view_is) (pending-refused p c.args.site c.args.scope.now c.args.amount allowed c.if-self.true)

pub lag_on-requires : goal.lag_on-requires
lag_on-requires g c = record {
  site = c.requires;
  known = rw (← c.self.view_is) (rw (c.objects.ensures, c.groups.ensures.groups) at c.in_ok-check_change.ensures.known);
}

pub returns-clause-known : goal.returns-clause-known
returns-clause-known g c = rw (← c.self.view_is) (rw (c.objects.ensures, c.groups.ensures.groups) at c.in_ok-check_change.ensures.known)
