-- The groups are the same so far, and one differs in its name or a member; or it is the same too; or one table ends.
use Rattle.std.proofs.Common.{arith}
use Rattle.ordup_series.proofs.DifferLemmas.{group-differs, group-same, groups-end, lists-differ, lists-same, members-differ}
use Rattle.ordup_series.proofs.record_end.same_members.Goals as goal

pub returns-then-ne-clause-differ : goal.returns-then-ne-clause-differ
returns-then-ne-clause-differ g c =
    group-differs c.loop-index.index c.loop-index.members c.args.mine.now c.args.others.now c.name.result.now
    c.name-in-loop-index.result.now c.loop-index.invariant.0 c.loop-index.invariant.1 (rw c.new-group.ensures at c.name.ensures) (rw c.new-group.ensures at c.name-in-loop-index.ensures)
    (lists-differ c.name.result.now c.name-in-loop-index.result.now c.if-ne.ensures)

pub same_front-requires : goal.same_front-requires
same_front-requires g c = lists-differ c.members-these.result.now c.members-those.result.now c.if-ne-2.ensures

pub returns-then-ne-2-clause-differ : goal.returns-then-ne-2-clause-differ
returns-then-ne-2-clause-differ g c =
    members-differ c.loop-index.index c.loop-index.members c.args.mine.now c.args.others.now c.name.result.now
    c.name-in-loop-index.result.now c.loop-index.invariant.0 c.loop-index.invariant.1 (rw c.new-group.ensures at c.name.ensures) (rw c.new-group.ensures at c.name-in-loop-index.ensures)
    c.members-these.result.now c.members-those.result.now (rw c.new-group.ensures at c.members-these.ensures.members)
    (rw c.new-group.ensures at c.members-those.ensures.members) c.same_front.result (lists-same c.name.result.now c.name-in-loop-index.result.now c.if-ne.ensures) c.same_front.ensures.differ

pub loop-index-preserved : goal.loop-index-preserved
loop-index-preserved g c =
    let members = lists-same c.members-these.result.now c.members-those.result.now c.if-ne-2.ensures in
    let (same, counted) = group-same c.loop-index.index c.loop-index.members c.args.mine.now c.args.others.now c.name.result.now
    c.name-in-loop-index.result.now c.loop-index.invariant.0 c.loop-index.invariant.1 (rw c.new-group.ensures at c.name.ensures) (rw c.new-group.ensures at c.name-in-loop-index.ensures)
    c.members-these.result.now c.members-those.result.now (rw c.new-group.ensures at c.members-these.ensures.members)
    (rw c.new-group.ensures at c.members-those.ensures.members) (lists-same c.name.result.now c.name-in-loop-index.result.now c.if-ne.ensures)
    members in
    (same, counted, omega (arith, c.loop-index.invariant.2, c.members-those.ensures.group.few))

pub returns-clause-differ : goal.returns-clause-differ
returns-clause-differ g c =
    groups-end c.loop-index.index c.loop-index.members c.args.mine.now c.args.others.now c.loop-index.invariant.0
    c.loop-index.invariant.1 (omega (arith)) c.requires c.len.ensures.names c.len-2.ensures.names
