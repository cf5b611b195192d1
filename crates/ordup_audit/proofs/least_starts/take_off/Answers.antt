-- An empty span passes no limit. So while the ledger is over one, its start is before its end, and may go on by an update.
use Rattle.std.proofs.Common.{arith}
use Rattle.ordup_audit.proofs.LeastStartLemmas.{over-forward}
use Rattle.ordup_audit.proofs.least_starts.take_off.Goals as goal

pub overflow_add-start : goal.overflow_add-start
overflow_add-start g c =
    let lt = over-forward c.args.log.now c.args.groups.now _ c.loop-start.start c.args.to _ _ c.loop-start.invariant.stands c.over.ensures
    c.loop-start-test.true in
    omega (arith, lt, c.ranges.to.fits)

pub reported-requires-clause-last : goal.reported-requires-clause-last
reported-requires-clause-last g c =
    let lt = over-forward c.args.log.now c.args.groups.now _ c.loop-start.start c.args.to _ _ c.loop-start.invariant.stands c.over.ensures
    c.loop-start-test.true in
    omega (arith, lt, c.requires.last)

pub loop-start-smaller : goal.loop-start-smaller
loop-start-smaller g c =
    let lt = over-forward c.args.log.now c.args.groups.now _ c.loop-start.start c.args.to _ _ c.loop-start.invariant.stands c.over.ensures
    c.loop-start-test.true in
    omega (arith, lt)
