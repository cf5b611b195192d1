use Rattle.std.proofs.Common.{arith}
use Rattle.ordup_plan.proofs.CountingLemmas.{kept-sum, promised, total-few}
use Rattle.ordup_plan.proofs.running.gather.Goals as goal

pub added_up-requires : goal.added_up-requires
added_up-requires g c =
    let few = kept-sum _ (λ p. p.sets) c.args.callers.items c.in-Ok.tallies.items (λ p r kept. promised r p.sets kept)
    (omega (arith, c.in-Ok.ensures.len, c.in-Ok.tallies.ok.0, c.args.callers.ok.0))
    (rw c.args.callers.ok.0 at c.in-Ok.ensures.each) in
    omega (arith, few, c.requires)

pub returns-in-Ok : goal.returns-in-Ok
returns-in-Ok g c =
    let few = kept-sum _ (λ p. p.sets) c.args.callers.items c.in-Ok.tallies.items (λ p r kept. promised r p.sets kept)
    (omega (arith, c.in-Ok.ensures.len, c.in-Ok.tallies.ok.0, c.args.callers.ok.0))
    (rw c.args.callers.ok.0 at c.in-Ok.ensures.each) in
    rw c.added_up.ensures (total-few c.in-Ok.tallies.items _ few)
