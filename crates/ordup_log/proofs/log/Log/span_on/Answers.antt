-- The weight of an object's span is that of its moves.
-- Spans add up, so it is also the difference of two from the log's start.
use Rattle.std.proofs.Common.{arith, ◌∙◌}
use Rattle.ordup_objects.proofs.SpanLemmas.{object_span-add}
use Rattle.ordup_log.proofs.MovingLemmas.{on-part}
use Rattle.ordup_log.proofs.WeightLemmas.{object_part-few}
use Rattle.ordup_log.proofs.log.Log.span_on.Goals as goal

pub overflow_sub-result : goal.overflow_sub-result
overflow_sub-result g c =
    omega (
      arith,
      c.running_weight.ensures,
      c.running_weight-else-to-from-lt-UPDATES_A_ROW.ensures,
      object_span-add c.args.self.now c.args.object c.args.from c.args.to c.requires.forward,
    )

pub returns-then-to-from-lt-UPDATES_A_ROW-clause-span : goal.returns-then-to-from-lt-UPDATES_A_ROW-clause-span
returns-then-to-from-lt-UPDATES_A_ROW-clause-span g c =
    c.total_on.ensures ∙ on-part c.args.self.now c.keeps.ensures.legal c.args.object c.args.from c.args.to c.moves_between.result.now c.requires.forward
    c.requires.last c.moves_between.ensures.moves

pub returns-then-to-from-lt-UPDATES_A_ROW-clause-few : goal.returns-then-to-from-lt-UPDATES_A_ROW-clause-few
returns-then-to-from-lt-UPDATES_A_ROW-clause-few g c =
    omega (
      arith,
      c.total_on.ensures,
      on-part c.args.self.now c.keeps.ensures.legal c.args.object c.args.from c.args.to c.moves_between.result.now c.requires.forward c.requires.last
          c.moves_between.ensures.moves,
      object_part-few c.args.self.now c.keeps.ensures.legal c.args.object c.args.from c.args.to c.requires.forward c.requires.last c.keeps.ensures.few,
    )

pub returns-else-to-from-lt-UPDATES_A_ROW-clause-span : goal.returns-else-to-from-lt-UPDATES_A_ROW-clause-span
returns-else-to-from-lt-UPDATES_A_ROW-clause-span g c =
    omega (
      arith,
      c.running_weight.ensures,
      c.running_weight-else-to-from-lt-UPDATES_A_ROW.ensures,
      object_span-add c.args.self.now c.args.object c.args.from c.args.to c.requires.forward,
    )

pub returns-else-to-from-lt-UPDATES_A_ROW-clause-few : goal.returns-else-to-from-lt-UPDATES_A_ROW-clause-few
returns-else-to-from-lt-UPDATES_A_ROW-clause-few g c =
    omega (
      arith,
      c.running_weight.ensures,
      c.running_weight-else-to-from-lt-UPDATES_A_ROW.ensures,
      object_span-add c.args.self.now c.args.object c.args.from c.args.to c.requires.forward,
      object_part-few c.args.self.now c.keeps.ensures.legal c.args.object c.args.from c.args.to c.requires.forward c.requires.last c.keeps.ensures.few,
    )
