-- Windows that are apart end one after the other. So the first that does not end before the place has it, or none has.
use Rattle.std.proofs.Common.{◌+◌, ap, arith, option_map, rules}
use Rattle.std.specs.Prelude.{nat_lt}
use Rattle.std.proofs.lemmas.List.Sorted.{IsPartitionPoint-from_clause, IsPartitionedBy-ltb}
use Rattle.ordup_rounds.specs.declared.window.Window.{Window}
use Rattle.ordup_lag.proofs.PlaceLemmas.{EndBefore, ends-rise, window-next, window-none}
use Rattle.ordup_lag.proofs.places.window_of.Goals as goal
use Rattle.ordup_lag.proofs.places.window_of.Goals.{else-before-windows-via-then-before-windows+else-windows-before}
use Rattle.ordup_lag.proofs.places.window_of.Goals.{else-before-windows-via-else-before-windows}

pub returns-then-windows-before : goal.returns-then-windows-before
returns-then-windows-before c =
    let before : EndBefore c.args.windows.now c.args.place c.partition_point-before.result =
    IsPartitionPoint-from_clause (λ (w : Window). nat_lt w.to c.args.place) _ _ c.partition_point-before.ensures.partitioned
    (IsPartitionedBy-ltb (λ (w : Window). w.to) c.args.windows.now c.args.place (ends-rise c.args.windows.now c.requires))
    (λ a r q k. search rules) in
    ap (option_map (λ i. i + 1))
    (window-next c.args.windows.now c.args.place c.partition_point-before.result _ before (omega arith) c.if-windows-before.true)

pub returns : goal.returns
returns c =
    let before : EndBefore c.args.windows.now c.args.place c.partition_point-before.result =
    IsPartitionPoint-from_clause (λ (w : Window). nat_lt w.to c.args.place) _ _ c.partition_point-before.ensures.partitioned
    (IsPartitionedBy-ltb (λ (w : Window). w.to) c.args.windows.now c.args.place (ends-rise c.args.windows.now c.requires))
    (λ a r q k. search rules) in
    ap (option_map (λ i. i + 1))
    (window-none c.args.windows.now c.args.place c.partition_point-before.result (record { from = 0; to = 0 }) c.requires before
    c.partition_point-before.ensures.bound
    (λ there. elim c.else-before-windows.branch [
      | else-before-windows-via-then-before-windows+else-windows-before w ↦ omega arith
      | else-before-windows-via-else-before-windows w ↦ absurd (omega arith)
    ]))
