-- Each span from before `low` passes a limit, and the one from `high` passes none.
-- A test of the middle moves one of them, and keeps this.
use Rattle.std.proofs.Common.{◌+◌, ◌-◌, ◌/◌, ◌∙◌, arith, refl}
use Rattle.ordup_limits.proofs.LimitLemmas.{within-empty}
use Rattle.ordup_limits.specs.Ledgers.{StandsAt}
use Rattle.ordup_audit.proofs.LeastStartLemmas.{over-passes, passes-later}
use Rattle.ordup_audit.proofs.least_starts.search.Goals as goal

pub loop-low-init : goal.loop-low-init
loop-low-init g c = record {
  order = omega arith;
  last = omega arith;
  before = λ k lt. absurd (omega arith);
  here = within-empty c.args.log.now c.args.groups.now c.args.ledger.now.limits c.args.to c.args.to (omega arith);
  same = refl;
  stands = c.requires.stands;
}

pub loop-low-preserved-then-over : goal.loop-low-preserved-then-over
loop-low-preserved-then-over g c =
    let h = c.args.log.now in
    let groups = c.args.groups.now in
    let limits = c.args.ledger.now.limits in
    let before = c.loop-low.invariant in
    let middle = c.loop-low.low + (c.loop-low.high - c.loop-low.low) / 2 in
    let stands : StandsAt h groups limits middle c.args.to c.stand_at.new.self = record {
      same = c.stand_at.ensures.limits ∙ before.same;
      from = c.stand_at.ensures.places.0;
      to = c.stand_at.ensures.places.1;
      stands = c.stand_at.ensures.stands;
    } in
    record {
      order = omega (arith, c.loop-low-test.true);
      last = before.last;
      before = passes-later h groups limits middle c.args.to
          (over-passes h groups limits middle c.args.to c.stand_at.new.self c.over.result stands c.over.ensures c.if-over.true);
      here = before.here;
      same = c.stand_at.ensures.limits ∙ before.same;
      stands = c.stand_at.ensures.stands;
    }

pub stand_at-requires : goal.stand_at-requires
stand_at-requires g c = record {
  reported = omega (arith, c.loop-low-test.true, c.loop-low.invariant.last, c.requires.last);
  extended = c.requires.last;
  stands = c.loop-low.invariant.stands;
}

pub stand_at-requires-2 : goal.stand_at-requires-2
stand_at-requires-2 g c = record {
  reported = omega (arith, c.loop-low.invariant.order, c.loop-low.invariant.last, c.requires.last);
  extended = c.requires.last;
  stands = c.loop-low.invariant.stands;
}
