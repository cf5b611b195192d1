-- The totals so far are raised by the updates from the old extended place up to the one reached.
-- They rise by no more than these updates may weigh, so they are small enough for the next one.
use Rattle.std.proofs.Common.{arith, ap, refl, ◌≡◌, ◌<◌, ◌≤◌, ◌*◌, ◌∙◌, length}
use Rattle.ordup_objects.specs.Sizes.{greatest_weight}
use Rattle.ordup_limits.specs.LagWeights.{LagWeightsAt}
use Rattle.ordup_limits.proofs.RaisedLemmas.{AreRaised-few, AreRaised-next, AreRaised-none}
use Rattle.ordup_limits.proofs.lag_weights.LagWeights.extend.Goals as goal

pub loop-place-init : goal.loop-place-init
loop-place-init g c =
    let w = c.args.self.now in
    let same : c.self.inside.extended ≡ w.extended = ap (λ (v : LagWeightsAt). v.extended) c.self.view_is in
    record { rest = refl; added = rw same (AreRaised-none c.args.log.now c.args.masks.now w.extended w.added) }

pub add_update-requires : goal.add_update-requires
add_update-requires g c =
    let w = c.args.self.now in
    let place = c.loop-place.place in
    let from : w.extended ≤ place = omega (arith, ap (λ (v : LagWeightsAt). v.extended) c.self.view_is, c.loop-place.auto.place) in
    let last : place < length c.args.log.now.sets = omega (arith, c.loop-place-test.true, c.requires.last) in
    record {
      last = last;
      objects = c.requires.objects;
      few = λ i. omega (
        arith,
        AreRaised-few c.args.log.now c.keeps.ensures.legal c.args.masks.now w.extended place (greatest_weight * w.extended)
            w.added c.loop-place.self.added from (omega (arith, last)) c.loop-place.invariant.added c.requires.few i,
        from,
      );
    }

pub loop-place-preserved : goal.loop-place-preserved
loop-place-preserved g c =
    let w = c.args.self.now in
    let before = c.loop-place.invariant in
    let place = c.loop-place.place in
    let from : w.extended ≤ place = omega (arith, ap (λ (v : LagWeightsAt). v.extended) c.self.view_is, c.loop-place.auto.place) in
    record {
      rest = c.add_update.ensures.rest ∙ ap (λ (v : LagWeightsAt). record v { added = c.add_update.new.self.added }) before.rest;
      added = AreRaised-next c.args.log.now c.args.masks.now w.extended place w.added c.loop-place.self.added c.add_update.new.self.added
          from before.added c.add_update.ensures.added;
    }

pub returns : goal.returns
returns g c =
    let w = c.args.self.now in
    let before = rw (← c.self-2.view_is) at c.loop-place.invariant in
    let all : c.loop-place.place ≡ c.args.to =
    omega (arith, ap (λ (v : LagWeightsAt). v.extended) c.self.view_is, c.loop-place-test.false, c.loop-place.auto, c.requires.forward) in
    record {
      rest = ap (λ (v : LagWeightsAt). record v { extended = c.args.to }) before.rest;
      added = rw all at before.added;
    }
