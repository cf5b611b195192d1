-- The total at the number of the scope is what the span from the start of the log to the place weighs there.
-- A log has so few updates, each of so little weight, that this is not above the bound.
use Rattle.std.proofs.Common.{arith, ap, ◌∙◌, ◌≡◌, get_or}
use Rattle.std.proofs.lemmas.List.{get_or_read}
use Rattle.ordup_log.specs.Spans.{span}
use Rattle.ordup_limits.proofs.SiteLemmas.{span-few}
use Rattle.ordup_limits.proofs.weights.Weights.on.Goals as goal

pub index-requires : goal.index-requires
index-requires g c = omega (arith, c.scope_index.ensures, c.requires.index, c.self.invariant)

pub returns : goal.returns
returns g c =
    let totals = c.self.inside.totals.items in
    let are = rw (← c.self.view_is) at c.requires.weights in
    let weight : c.index.result.now ≡ span c.args.log.now c.args.groups.now c.args.scope.now 0 c.self.inside.place =
    get_or_read totals c.scope_index.result c.index.result.now
    (omega (arith, c.scope_index.ensures, c.requires.index, c.self.invariant)) c.index.ensures 0
    ∙ ap (λ i. get_or totals i 0) c.scope_index.ensures ∙ are.each c.args.scope.now c.requires.known in
    record {
      weight = rw (← c.self.view_is) weight;
      few = omega (
        arith,
        weight,
        span-few c.args.log.now c.keeps.ensures.legal c.args.groups.now c.keeps-2.ensures.groups c.args.scope.now c.requires.known
            c.self.inside.place are.last,
        are.last,
        c.keeps.ensures.few,
      );
    }
