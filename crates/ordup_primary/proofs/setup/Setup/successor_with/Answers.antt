use Rattle.std.proofs.Common.{rules}
use Rattle.ordup_primary.specs.Declarations.{Declared}
use Rattle.ordup_primary.proofs.SetupLemmas.{AreDeclared-successor}
use Rattle.ordup_primary.proofs.setup.Setup.successor_with.Goals as goal

pub invariant_of-result : goal.invariant_of-result
invariant_of-result g c =
    let held = c.self.inside in
    let d : Declared = record { objects = held.objects; groups = held.groups; sites = held.capacities; limits = held.limits.items } in
    AreDeclared-successor d _ c.args.tables.now c.self.invariant c.in_ok-objects.ensures.names (search rules) (search rules)
    (search rules) (rw (← c.self.view_is) at c.requires.count) (rw (← c.self.view_is) at c.requires.known)
