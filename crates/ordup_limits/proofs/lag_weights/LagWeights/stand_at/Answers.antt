-- A place that differs has its totals made anew from the log, and one that is the same has the right ones already.
-- The mask of passed limits is then made from all totals.
use Rattle.std.proofs.Common.{arith, refl, ◌≡◌}
use Rattle.ordup_limits.specs.LagWeights.{AreLagWeights}
use Rattle.ordup_limits.specs.LagWeightsInside.{lag_weights_of}
use Rattle.ordup_limits.proofs.lag_weights.LagWeights.stand_at.Goals as goal
use Rattle.ordup_limits.proofs.lag_weights.LagWeights.stand_at.Goals.{then-reported-self, else-reported-self, then-extended-self, else-extended-self}

pub add_amounts-requires : goal.add_amounts-requires
add_amounts-requires g c = λ i. omega (arith, c.put_down.ensures.few i, c.requires.reported, c.keeps.ensures.few)

pub invariant_of-self : goal.invariant_of-self
invariant_of-self g c = record { passed = c.passed_of-self-inside.ensures; fits = c.passed_of-self-inside.type_inv }

pub returns : goal.returns
returns g c =
    let h = c.args.log.now in
    let groups = c.args.groups.now in
    let limits = c.args.limits.now in
    let before = rw (← c.self.view_is) at c.requires.weights in
    let first : (c.if-reported-self.self-inside.reported ≡ c.args.reported)
    × AreLagWeights h groups limits (lag_weights_of c.if-reported-self.self-inside) =
    elim c.if-reported-self.branch [
      | then-reported-self w ↦ rw w.self-inside-is (
        refl,
        record {
          added = before.added;
          allowed = w.add_amounts.ensures h groups c.args.reported w.put_down.ensures;
        },
      )
      | else-reported-self w ↦ rw w.self-inside-is (omega (arith, w.if-reported-self.false), before)
    ] in
    let second : (c.if-extended-self.self-inside.reported ≡ c.args.reported) × (c.if-extended-self.self-inside.extended ≡ c.args.extended)
    × AreLagWeights h groups limits (lag_weights_of c.if-extended-self.self-inside) =
    elim c.if-extended-self.branch [
      | then-extended-self w ↦ rw w.self-inside-is (
        first.0,
        refl,
        record {
          added = w.put_down-then-extended-self.ensures;
          allowed = first.1.allowed;
        },
      )
      | else-extended-self w ↦ rw w.self-inside-is (first.0, omega (arith, w.if-extended-self.false), first.1)
    ] in
    record { places = (second.0, second.1); weights = second.2 }
