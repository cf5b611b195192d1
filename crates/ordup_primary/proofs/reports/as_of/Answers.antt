-- The changes rise by place. The last one counts if it is not after the place; else a binary search finds the one that does.
use Rattle.std.proofs.Common.{leb, arith, rules, sym}
use Rattle.std.proofs.lemmas.List.Sorted.{IsPartitionPoint-from_clause, IsPartitionedBy-leb}
use Rattle.ordup_log.proofs.StepLemmas.{as_of-none, as_of-some, as_of-last}
use Rattle.ordup_primary.proofs.reports.as_of.Goals as goal

pub returns-in-0 : goal.returns-in-0
returns-in-0 c =
    let point =
    IsPartitionPoint-from_clause (λ step. leb step.0 c.args.place) _ _ c.partition_point.ensures.partitioned
    (IsPartitionedBy-leb (λ step. step.0) _ c.args.place c.requires) (λ a r q k. search rules) in
    sym (as_of-none c.args.changes.now c.args.place (rw c.in-0.is at point))

pub returns-in_default : goal.returns-in_default
returns-in_default c =
    let point =
    IsPartitionPoint-from_clause (λ step. leb step.0 c.args.place) _ _ c.partition_point.ensures.partitioned
    (IsPartitionedBy-leb (λ step. step.0) _ c.args.place c.requires) (λ a r q k. search rules) in
    sym (as_of-some c.args.changes.now c.args.place c.partition_point.result (0, 0) (omega arith)
    c.partition_point.ensures.bound point)

pub returns : goal.returns
returns c =
    sym (as_of-last c.args.changes.now c.args.place c.in-Some.last.now c.requires (sym (rw c.in-Some.is at c.last.ensures.value))
    c.if-last-place.true)
