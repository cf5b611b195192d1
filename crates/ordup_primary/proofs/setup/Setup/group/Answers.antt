-- A new group leaves those before it known, so each limit is still on a scope that is there.
use Rattle.std.proofs.Common.{refl}
use Rattle.std.proofs.lemmas.Result.{on_ok_weaker, on_err_weaker}
use Rattle.ordup_primary.specs.Declarations.{Declared}
use Rattle.ordup_primary.proofs.SetupLemmas.{AreDeclared-group}
use Rattle.ordup_primary.proofs.setup.Setup.group.Goals as goal

pub invariant_of-self : goal.invariant_of-self
invariant_of-self g c =
    let held = c.self.inside in
    let d : Declared =
    record { objects = held.objects; groups = held.groups; sites = held.capacities; limits = held.limits.items } in
    AreDeclared-group d c.declare.result c.declare.new.self (c.args.name.now, c.args.members.now) c.self.invariant
    c.declare.ensures.known c.declare.ensures.declared c.declare.ensures.err

pub returns : goal.returns
returns g c =
    let made = c.declare.ensures in
    rw (← c.self.view_is) (record {
      group = made.group;
      declared = on_ok_weaker c.declare.result (λ is. rw is refl) made.declared;
      allowed = made.allowed;
      refused = made.refused;
      err = on_err_weaker c.declare.result (λ is. rw is refl) made.err;
    })
