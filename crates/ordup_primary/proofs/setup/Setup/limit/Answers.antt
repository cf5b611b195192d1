-- One table gets an entry that holds from place 1, on a scope that was found to be there.
-- If the table refuses it, all is as before.
use Rattle.std.proofs.Common.{arith, false, nat_lt, refl, sym, subst, length, ◌≡◌, ◌<◌, ◌≤◌}
use Rattle.std.proofs.lemmas.Bool.{le-ltb}
use Rattle.std.proofs.lemmas.Result.{err_from_is_err_and}
use Rattle.std.proofs.lemmas.List.Elements.{All-push}
use Rattle.ordup_log.specs.Spans.{IsScopeKnown}
use Rattle.ordup_limits.specs.declared.limit_entry.LimitEntry.{LimitEntry}
use Rattle.ordup_limits.specs.Entries.{AreEntriesKnown, HoldFrom}
use Rattle.ordup_primary.specs.Declarations.{Declared}
use Rattle.ordup_primary.proofs.SetupLemmas.{AreDeclared-limits, kept-added}
use Rattle.std.proofs.lemmas.Grind.{common_steps}
use Rattle.ordup_primary.proofs.setup.Setup.limit.Goals as goal

pub invariant_of-self : goal.invariant_of-self
invariant_of-self g c =
    let d : Declared = record {
      objects = c.self.inside.objects;
      groups = c.self.inside.groups;
      sites = c.self.inside.capacities;
      limits = c.self.inside.limits.items;
    } in
    let n = length c.self.inside.objects in
    let groups = c.self.inside.groups in
    let old = c.index_mut.result.now in
    let e : LimitEntry = record { limit = record { scope = c.args.scope; amount = c.args.amount }; place = 1 } in
    let before = c.self.invariant in
    let here : c.index-2.result < length c.self.inside.limits.items =
    omega (
      arith,
      c.index-2.ensures,
      c.index.ensures,
      c.if-index-sites.false,
      rw (← c.self.view_is) at c.sites.ensures.sites,
      before.count,
    ) in
    let first : HoldFrom 1 old = subst (HoldFrom 1) (sym c.index_mut.ensures.value) (before.first c.index-2.result old here) in
    let known : AreEntriesKnown n groups old =
    subst (AreEntriesKnown n groups) (sym c.index_mut.ensures.value) (before.known c.index-2.result old here) in
    AreDeclared-limits d c.index-2.result c.add.new.self _ before refl
    (kept-added (HoldFrom 1) c.add.result old c.add.new.self e first (All-push (λ (f : LimitEntry). f.place ≤ 1) old e first (omega arith))
    c.add.ensures.added c.add.ensures.err)
    (kept-added (AreEntriesKnown n groups) c.add.result old c.add.new.self e known
    (All-push (λ (f : LimitEntry). IsScopeKnown n groups f.limit.scope) old e known c.in_ok-check_scope.ensures.known) c.add.ensures.added c.add.ensures.err)

pub returns-in_err-check_scope : goal.returns-in_err-check_scope
returns-in_err-check_scope g c =
    let failed = err_from_is_err_and c.from_residual.result c.from_residual.ensures.1 in
    record {
      declared = rw failed.1 tt;
      allowed = rw failed.1 tt;
      refused = rw (failed.1, failed.2, ← c.self.view_is, c.in_err-check_scope.ensures.refused) refl;
      err = rw failed.1 refl;
    }

pub returns-then-index-sites : goal.returns-then-index-sites
returns-then-index-sites g c =
    let sites = rw (← c.self.view_is) at c.sites.ensures.sites in
    let beyond : nat_lt c.args.site (length c.self.inside.capacities) ≡ false =
    le-ltb c.args.site (length c.self.inside.capacities) (omega (arith, sites, c.index.ensures, c.if-index-sites.true)) in
    record {
      declared = tt;
      allowed = tt;
      refused = rw (← c.self.view_is, c.in_ok-check_scope.ensures.allowed, beyond) refl;
      err = refl;
    }

pub index_mut-requires : goal.index_mut-requires
index_mut-requires g c =
    let sites = rw (← c.self.view_is) at c.sites.ensures.sites in
    omega (arith, c.index-2.ensures, c.index.ensures, c.if-index-sites.false, sites, c.self.invariant.count)

pub returns-clause-declared : goal.returns-clause-declared
returns-clause-declared g c = grind (arith, common_steps)

pub returns-clause-allowed : goal.returns-clause-allowed
returns-clause-allowed g c = grind (arith, common_steps)

pub returns-clause-refused : goal.returns-clause-refused
returns-clause-refused g c = grind (arith, common_steps)

pub returns-clause-err : goal.returns-clause-err
returns-clause-err g c = grind (arith, common_steps)

pub add-requires : goal.add-requires
add-requires g c =
    let here : c.index-2.result < length c.self.inside.limits.items =
    omega (
      arith,
      c.index-2.ensures,
      c.index.ensures,
      c.if-index-sites.false,
      rw (← c.self.view_is) at c.sites.ensures.sites,
      c.self.invariant.count,
    ) in
    subst (HoldFrom 1) (sym c.index_mut.ensures.value) (c.self.invariant.first c.index-2.result c.index_mut.result.now here)
