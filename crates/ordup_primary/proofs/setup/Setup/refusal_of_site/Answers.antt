-- The name is tested first, then the capacity, then the count, as in the definition.
-- Each branch knows what those before it found.
use Rattle.std.proofs.Common.{ap, sym, true, false, ◌≡◌, ◌∙◌}
use Rattle.std.specs.Prelude.{is_some}
use Rattle.ordup_objects.specs.Tables.{index_of}
use Rattle.ordup_primary.proofs.SetupLemmas.{taken-refused, capacity-refused, many-refused, none-refused}
use Rattle.ordup_primary.proofs.setup.Setup.refusal_of_site.Goals as goal

pub returns-then-is_some : goal.returns-then-is_some
returns-then-is_some g c =
    let taken : true ≡ is_some (index_of c.args.name.now c.self.inside.capacities) =
    c.if-is_some.ensures ∙ ap is_some (c.find.ensures.index ∙ ap (λ n. index_of n c.self.inside.capacities) c.as_bytes.ensures.bytes) in
    rw (← c.self.view_is) (taken-refused c.self.inside.capacities c.args.name.now c.args.capacity c.as_bytes.ensures.name taken)

pub returns-then-not-is_capacity : goal.returns-then-not-is_capacity
returns-then-not-is_capacity g c =
    let free : false ≡ is_some (index_of c.args.name.now c.self.inside.capacities) =
    c.if-is_some.ensures ∙ ap is_some (c.find.ensures.index ∙ ap (λ n. index_of n c.self.inside.capacities) c.as_bytes.ensures.bytes) in
    rw (← c.self.view_is) (capacity-refused c.self.inside.capacities c.args.name.now c.args.capacity c.as_bytes.ensures.name free
    c.if-not-is_capacity.ensures)

pub returns-then-sites-eq-MOST_SITES : goal.returns-then-sites-eq-MOST_SITES
returns-then-sites-eq-MOST_SITES g c =
    let free : false ≡ is_some (index_of c.args.name.now c.self.inside.capacities) =
    c.if-is_some.ensures ∙ ap is_some (c.find.ensures.index ∙ ap (λ n. index_of n c.self.inside.capacities) c.as_bytes.ensures.bytes) in
    rw (← c.self.view_is) (many-refused c.self.inside.capacities c.args.name.now c.args.capacity c.as_bytes.ensures.name free
    c.if-not-is_capacity.ensures (sym (rw (← c.self.view_is) at c.sites.ensures.sites) ∙ c.if-sites-eq-MOST_SITES.true))

pub returns-else-sites-eq-MOST_SITES : goal.returns-else-sites-eq-MOST_SITES
returns-else-sites-eq-MOST_SITES g c =
    let free : false ≡ is_some (index_of c.args.name.now c.self.inside.capacities) =
    c.if-is_some.ensures ∙ ap is_some (c.find.ensures.index ∙ ap (λ n. index_of n c.self.inside.capacities) c.as_bytes.ensures.bytes) in
    rw (← c.self.view_is) (none-refused c.self.inside.capacities c.args.name.now c.args.capacity c.as_bytes.ensures.name free
    c.if-not-is_capacity.ensures (λ full. c.if-sites-eq-MOST_SITES.false ((rw (← c.self.view_is) at c.sites.ensures.sites) ∙ full)))
