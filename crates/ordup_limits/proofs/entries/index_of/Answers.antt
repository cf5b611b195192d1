-- The entries rise by place, so none before the partition point is of the place that is looked for.
-- The index among the others, and how many stand before them, come to the index among all.
use Rattle.std.proofs.Common.{◌+◌, ◌∙◌, ap, option_map, rules, sym}
use Rattle.std.specs.Prelude.{nat_lt}
use Rattle.std.proofs.lemmas.List.Sorted.{IsPartitionPoint-from_clause, IsPartitionedBy-ltb}
use Rattle.ordup_limits.specs.declared.limit_entry.LimitEntry.{LimitEntry}
use Rattle.ordup_limits.proofs.PutLemmas.{StandBefore, entry-behind}
use Rattle.ordup_limits.proofs.entries.index_of.Goals as goal

pub returns-in-Some : goal.returns-in-Some
returns-in-Some c =
    let n = c.partition_point-before.result in
    let before : StandBefore c.args.entries.now c.args.entry.now.place n =
    IsPartitionPoint-from_clause (λ (e : LimitEntry). nat_lt e.place c.args.entry.now.place) _ _
    c.partition_point-before.ensures.partitioned
    (IsPartitionedBy-ltb (λ (e : LimitEntry). e.place) c.args.entries.now c.args.entry.now.place c.requires)
    (λ a r q k. search rules) in
    ap (option_map (λ i. n + i)) (sym c.in-Some.is ∙ c.index_among.ensures)
    ∙ entry-behind c.args.entries.now c.args.entry.now n c.partition_point-before.ensures.bound before

pub returns-in-None : goal.returns-in-None
returns-in-None c =
    let n = c.partition_point-before.result in
    let before : StandBefore c.args.entries.now c.args.entry.now.place n =
    IsPartitionPoint-from_clause (λ (e : LimitEntry). nat_lt e.place c.args.entry.now.place) _ _
    c.partition_point-before.ensures.partitioned
    (IsPartitionedBy-ltb (λ (e : LimitEntry). e.place) c.args.entries.now c.args.entry.now.place c.requires)
    (λ a r q k. search rules) in
    ap (option_map (λ i. n + i)) (sym c.in-None.is ∙ c.index_among.ensures)
    ∙ entry-behind c.args.entries.now c.args.entry.now n c.partition_point-before.ensures.bound before
