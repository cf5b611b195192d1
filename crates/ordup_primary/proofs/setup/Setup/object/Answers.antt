-- A new object changes no index of those before it, so groups and limits keep the objects that they were declared with.
use Rattle.std.proofs.Common.{refl, rules, w64, ℤ, List, ℕ}
use Rattle.std.proofs.lemmas.Int.{to_z-of_z}
use Rattle.std.proofs.lemmas.Result.{on_ok_weaker, on_err_weaker}
use Rattle.ordup_primary.specs.Declarations.{Declared, AreDeclared}
use Rattle.ordup_primary.proofs.SetupLemmas.{AreDeclared-object, kept-added}
use Rattle.ordup_primary.proofs.setup.Setup.object.Goals as goal

pub invariant_of-self : goal.invariant_of-self
invariant_of-self g c =
    let held = c.self.inside in
    let d : Declared =
    record { objects = held.objects; groups = held.groups; sites = held.capacities; limits = held.limits.items } in
    let object : List ℕ × ℤ = (c.args.name.now, c.args.initial) in
    let added = rw (to_z-of_z w64 c.args.initial (search rules)) at c.declare.ensures.declared in
    kept-added (λ (objects : List (List ℕ × ℤ)). AreDeclared (record d { objects = objects })) c.declare.result held.objects
    c.declare.new.self object c.self.invariant (AreDeclared-object d object c.self.invariant) added c.declare.ensures.err

pub returns : goal.returns
returns g c =
    let made = rw (to_z-of_z w64 c.args.initial (search rules)) at c.declare.ensures in
    rw (← c.self.view_is) (record {
      object = made.object;
      declared = on_ok_weaker c.declare.result (λ is. rw is refl) made.declared;
      allowed = made.allowed;
      refused = made.refused;
      err = on_err_weaker c.declare.result (λ is. rw is refl) made.err;
    })
