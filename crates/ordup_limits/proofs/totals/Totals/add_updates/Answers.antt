-- Totals that rose by some updates, and then by the next one, rose by all of them.
-- Their bound rises with the place, by what an update may weigh, so the next one always fits.
use Rattle.std.proofs.Common.{arith, length, ◌≡◌, ◌<◌, ◌+◌, ◌*◌}
use Rattle.ordup_objects.specs.Sizes.{greatest_weight}
use Rattle.ordup_limits.specs.Sizes.{greatest_amount}
use Rattle.ordup_limits.proofs.RaisedLemmas.{AreRaised-few, AreRaised-next, AreRaised-none}
use Rattle.ordup_limits.proofs.totals.Totals.add_updates.Goals as goal

pub loop-place-init : goal.loop-place-init
loop-place-init g c = AreRaised-none c.args.log.now c.args.masks.now c.args.from c.args.self.now

pub add_update-requires : goal.add_update-requires
add_update-requires g c =
    let from = c.args.from in
    let place = c.loop-place.place in
    let last : place < length c.args.log.now.sets = omega (arith, c.loop-place-test.true, c.requires.last) in
    record {
      last = last;
      objects = c.requires.objects;
      few = λ i. omega (
        arith,
        AreRaised-few c.args.log.now c.keeps.ensures.legal c.args.masks.now from place (greatest_amount + greatest_weight * from)
            c.args.self.now c.loop-place.self c.loop-place.auto.place (omega (arith, last)) c.loop-place.invariant c.requires.few i,
        c.loop-place.auto.place,
      );
    }

pub loop-place-preserved : goal.loop-place-preserved
loop-place-preserved g c =
    AreRaised-next c.args.log.now c.args.masks.now c.args.from c.loop-place.place c.args.self.now c.loop-place.self c.add_update.new.self
    c.loop-place.auto.place c.loop-place.invariant c.add_update.ensures

pub returns : goal.returns
returns g c =
    let all : c.loop-place.place ≡ c.args.to = omega (arith, c.loop-place-test.false, c.loop-place.auto, c.requires.forward) in
    rw all at c.loop-place.invariant
