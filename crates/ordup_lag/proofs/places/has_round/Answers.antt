-- The rounds rise, so the place has one only if it is the first round that is not before the place.
use Rattle.std.proofs.Common.{arith, length, rules}
use Rattle.std.specs.Prelude.{nat_lt}
use Rattle.std.proofs.lemmas.Bool.{le-ltb}
use Rattle.std.proofs.lemmas.List.Sorted.{IsPartitionPoint-from_clause, IsPartitionedBy-ltb}
use Rattle.ordup_lag.proofs.PlaceLemmas.{AreBefore, round-next, round-none, rounds-rise}
use Rattle.ordup_lag.proofs.places.has_round.Goals as goal

pub returns-then-before-rounds : goal.returns-then-before-rounds
returns-then-before-rounds c =
    let before : AreBefore c.args.rounds.now c.args.place c.partition_point-before.result =
    IsPartitionPoint-from_clause (λ round. nat_lt round c.args.place) _ _ c.partition_point-before.ensures.partitioned
    (IsPartitionedBy-ltb (λ round. round) c.args.rounds.now c.args.place (rounds-rise c.args.rounds.now c.requires))
    (λ a r q k. search rules) in
    round-next c.args.rounds.now c.args.place c.partition_point-before.result c.requires before (omega arith)

pub returns-else-before-rounds : goal.returns-else-before-rounds
returns-else-before-rounds c =
    let before : AreBefore c.args.rounds.now c.args.place c.partition_point-before.result =
    IsPartitionPoint-from_clause (λ round. nat_lt round c.args.place) _ _ c.partition_point-before.ensures.partitioned
    (IsPartitionedBy-ltb (λ round. round) c.args.rounds.now c.args.place (rounds-rise c.args.rounds.now c.requires))
    (λ a r q k. search rules) in
    rw (le-ltb c.partition_point-before.result (length c.args.rounds.now) (omega arith))
    (round-none c.args.rounds.now c.args.place c.partition_point-before.result before (omega arith))
