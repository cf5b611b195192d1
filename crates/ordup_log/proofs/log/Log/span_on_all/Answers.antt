-- What holds of one object holds of all: a short span is summed, and a long one is the difference of two running weights.
use Rattle.std.proofs.Common.{arith, [], ◌∙◌}
use Rattle.ordup_log.specs.declared.scope.Scope.TheVariants.{All as Everything}
use Rattle.ordup_log.proofs.MovingLemmas.{all-part}
use Rattle.ordup_log.proofs.SpanLemmas.{span-add}
use Rattle.ordup_log.proofs.WeightLemmas.{all_part-few}
use Rattle.ordup_log.proofs.log.Log.span_on_all.Goals as goal

pub overflow_sub-result : goal.overflow_sub-result
overflow_sub-result g c =
    omega (
      arith,
      c.running_weight_on_all.ensures,
      c.running_weight_on_all-else-to-from-lt-UPDATES_A_ROW.ensures,
      span-add c.args.self.now [] Everything c.args.from c.args.to c.requires.forward,
    )

pub returns-then-to-from-lt-UPDATES_A_ROW-clause-span : goal.returns-then-to-from-lt-UPDATES_A_ROW-clause-span
returns-then-to-from-lt-UPDATES_A_ROW-clause-span g c =
    c.total_on_all.ensures ∙ all-part c.args.self.now c.keeps.ensures.legal c.args.from c.args.to c.moves_between.result.now c.requires.forward
    c.requires.last c.moves_between.ensures.moves

pub returns-then-to-from-lt-UPDATES_A_ROW-clause-few : goal.returns-then-to-from-lt-UPDATES_A_ROW-clause-few
returns-then-to-from-lt-UPDATES_A_ROW-clause-few g c =
    omega (
      arith,
      c.total_on_all.ensures,
      all-part c.args.self.now c.keeps.ensures.legal c.args.from c.args.to c.moves_between.result.now c.requires.forward c.requires.last
          c.moves_between.ensures.moves,
      all_part-few c.args.self.now c.keeps.ensures.legal c.args.from c.args.to c.requires.forward c.requires.last c.keeps.ensures.few,
    )

pub returns-else-to-from-lt-UPDATES_A_ROW-clause-span : goal.returns-else-to-from-lt-UPDATES_A_ROW-clause-span
returns-else-to-from-lt-UPDATES_A_ROW-clause-span g c =
    omega (
      arith,
      c.running_weight_on_all.ensures,
      c.running_weight_on_all-else-to-from-lt-UPDATES_A_ROW.ensures,
      span-add c.args.self.now [] Everything c.args.from c.args.to c.requires.forward,
    )

pub returns-else-to-from-lt-UPDATES_A_ROW-clause-few : goal.returns-else-to-from-lt-UPDATES_A_ROW-clause-few
returns-else-to-from-lt-UPDATES_A_ROW-clause-few g c =
    omega (
      arith,
      c.running_weight_on_all.ensures,
      c.running_weight_on_all-else-to-from-lt-UPDATES_A_ROW.ensures,
      span-add c.args.self.now [] Everything c.args.from c.args.to c.requires.forward,
      all_part-few c.args.self.now c.keeps.ensures.legal c.args.from c.args.to c.requires.forward c.requires.last c.keeps.ensures.few,
    )
