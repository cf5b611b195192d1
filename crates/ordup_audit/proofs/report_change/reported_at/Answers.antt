-- The changes rise by place, so the search finds where those up to the place end. The last of these has what was reported.
use Rattle.std.proofs.Common.{leb, arith, rules}
use Rattle.std.proofs.lemmas.List.Sorted.{IsPartitionPoint-from_clause, IsPartitionedBy-leb}
use Rattle.ordup_audit.proofs.ReportLemmas.{places-rise, ArePassed, report_at-none, report_at-last}
use Rattle.ordup_audit.proofs.report_change.reported_at.Goals as goal

pub returns-then-passed-eq0 : goal.returns-then-passed-eq0
returns-then-passed-eq0 c =
    let passed : ArePassed c.args.changes.now c.args.place c.partition_point-passed.result =
    IsPartitionPoint-from_clause (λ change. leb change.place c.args.place) _ _ c.partition_point-passed.ensures.partitioned
    (IsPartitionedBy-leb (λ change. change.place) c.args.changes.now c.args.place (places-rise c.args.changes.now c.requires))
    (λ a r q k. search rules) in
    report_at-none c.args.changes.now c.args.place c.partition_point-passed.result passed c.if-passed-eq0.true

pub returns : goal.returns
returns c =
    let passed : ArePassed c.args.changes.now c.args.place c.partition_point-passed.result =
    IsPartitionPoint-from_clause (λ change. leb change.place c.args.place) _ _ c.partition_point-passed.ensures.partitioned
    (IsPartitionedBy-leb (λ change. change.place) c.args.changes.now c.args.place (places-rise c.args.changes.now c.requires))
    (λ a r q k. search rules) in
    report_at-last c.args.changes.now c.args.place c.partition_point-passed.result _ passed (omega arith)
    (omega (arith, c.partition_point-passed.ensures.bound))
