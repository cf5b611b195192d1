-- Spare capacity for the table of limits is reserved before the name goes in, so both lists grow by one, or neither does.
use Rattle.std.proofs.Common.{arith, refl, ◌∙◌}
use Rattle.std.proofs.lemmas.Result.{err_from_is_err_and, IfOk-from_err}
use Rattle.ordup_primary.specs.Declarations.{Declared}
use Rattle.ordup_primary.proofs.SetupLemmas.{AreDeclared-site, site_allowed, name-free}
use Rattle.ordup_primary.proofs.setup.Setup.site.Goals as goal

pub invariant_of-self-2 : goal.invariant_of-self-2
invariant_of-self-2 g c =
    let held = c.self.inside in
    let d : Declared =
    record { objects = held.objects; groups = held.groups; sites = held.capacities; limits = held.limits.items } in
    let fit = site_allowed held.capacities c.args.name.now c.args.capacity (rw (← c.self.view_is) at c.in_ok-name.ensures.allowed)
    c.self.invariant.few in
    AreDeclared-site d c.in_ok-name.name c.args.capacity c.push.new.self c.push_reserved.new.self.items c.self.invariant
    fit.0 fit.1 c.in_ok-push.ensures.ok (rw (c.new.ensures, c.in_ok-reserve.ensures.items) at c.push_reserved.ensures.items)

pub invariant_of-self : goal.invariant_of-self
invariant_of-self g c = rw c.in_err-reserve.ensures.items c.self.invariant

pub overflow_cast-index : goal.overflow_cast-index
overflow_cast-index g c = omega (arith, c.sites-index.ensures.sites, c.sites-index.ensures.few)

pub push-requires : goal.push-requires
push-requires g c =
    rw c.in_ok-name.ensures.name (name-free c.self.inside.capacities c.args.name.now c.args.capacity
    (rw (← c.self.view_is) at c.in_ok-name.ensures.allowed))

pub push_reserved-requires : goal.push_reserved-requires
push_reserved-requires g c = omega (arith, c.in_ok-reserve.ensures.ok)

pub returns-in_err-name : goal.returns-in_err-name
returns-in_err-name g c =
    let failed = err_from_is_err_and c.from_residual.result c.from_residual.ensures.1 in
    record {
      site = IfOk-from_err _ _ c.from_residual.ensures.0;
      declared = IfOk-from_err _ _ c.from_residual.ensures.0;
      allowed = IfOk-from_err _ _ c.from_residual.ensures.0;
      refused = rw (failed.1, failed.2, c.in_err-name.ensures.refused) refl;
      err = rw failed.1 refl;
    }

pub returns-in_err-reserve : goal.returns-in_err-reserve
returns-in_err-reserve g c =
    let failed = err_from_is_err_and c.from_residual-in_err-reserve.result c.from_residual-in_err-reserve.ensures.1 in
    record {
      site = IfOk-from_err _ _ c.from_residual-in_err-reserve.ensures.0;
      declared = IfOk-from_err _ _ c.from_residual-in_err-reserve.ensures.0;
      allowed = IfOk-from_err _ _ c.from_residual-in_err-reserve.ensures.0;
      refused = rw (failed.1, c.in_ok-name.ensures.allowed) failed.2;
      err = rw (failed.1, c.in_err-reserve.ensures.items) c.self.view_is;
    }

pub invariant_of-self-in_err-push : goal.invariant_of-self-in_err-push
invariant_of-self-in_err-push g c = rw (c.in_err-push.ensures.err, c.in_ok-reserve.ensures.items) c.self.invariant

pub returns-in_err-push : goal.returns-in_err-push
returns-in_err-push g c =
    let failed = err_from_is_err_and c.from_residual-in_err-push.result c.from_residual-in_err-push.ensures.1 in
    record {
      site = IfOk-from_err _ _ c.from_residual-in_err-push.ensures.0;
      declared = IfOk-from_err _ _ c.from_residual-in_err-push.ensures.0;
      allowed = IfOk-from_err _ _ c.from_residual-in_err-push.ensures.0;
      refused = rw (failed.1, c.in_ok-name.ensures.allowed) failed.2;
      err = rw (failed.1, c.in_err-push.ensures.err, c.in_ok-reserve.ensures.items) c.self.view_is;
    }

pub returns : goal.returns
returns g c =
    let sites = rw c.in_ok-name.ensures.name at c.in_ok-push.ensures.ok in
    let limits = rw (c.new.ensures, c.in_ok-reserve.ensures.items) at c.push_reserved.ensures.items in
    record {
      site = c.new-2.ensures ∙ c.sites-index.ensures.sites;
      declared = rw (← c.self.view_is, sites, limits) refl;
      allowed = c.in_ok-name.ensures.allowed;
      refused = tt;
      err = tt;
    }
