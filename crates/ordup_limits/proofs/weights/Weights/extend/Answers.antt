-- Each step moves the place on by one update and leaves the weights those of the place. So the loop ends at the later place.
use Rattle.std.proofs.Common.{arith}
use Rattle.ordup_limits.proofs.weights.Weights.extend.Goals as goal

pub add_update-requires : goal.add_update-requires
add_update-requires g c = record {
  last = omega (arith, c.place.ensures, c.loop-self-test.true, c.requires.last);
  objects = c.requires.objects;
  masks = c.requires.masks;
  weights = c.loop-self.invariant.weights;
}

pub loop-self-preserved : goal.loop-self-preserved
loop-self-preserved g c = record {
  place = omega (arith, c.add_update.ensures.place, c.place.ensures, c.loop-self-test.true);
  weights = c.add_update.ensures.weights;
}

pub returns : goal.returns
returns g c = record {
  place = omega (arith, c.place.ensures, c.loop-self-test.false, c.loop-self.invariant.place);
  weights = c.loop-self.invariant.weights;
}
