-- The last row of marks has the weight up to its place, and the moves after it have the rest.
-- An unknown object weighs nothing.
use Rattle.std.proofs.Common.{arith, ◌≡◌, ◌/◌, ◌*◌, ◌-◌, ap, sym}
use Rattle.ordup_objects.specs.Weights.{object_span}
use Rattle.ordup_log.specs.Rows.{updates_a_row}
use Rattle.ordup_log.proofs.MovingLemmas.{on-between}
use Rattle.ordup_log.proofs.MostLemmas.{object_span-past}
use Rattle.ordup_log.proofs.WeightLemmas.{object_span-few}
use Rattle.ordup_log.proofs.log.Log.running_weight.Goals as goal

pub overflow_add-result : goal.overflow_add-result
overflow_add-result g c =
    let h = c.args.self.now in
    let place = c.args.place in
    let row = place / updates_a_row in
    let same : row * updates_a_row ≡ updates_a_row * row = omega arith in
    omega (
      arith,
      c.mark.ensures,
      ap (object_span h c.args.object 0) same,
      on-between h c.len.ensures.legal c.args.object (row * updates_a_row) place c.moves_between.result.now (omega arith) c.requires
          c.moves_between.ensures.moves,
      c.total_on.ensures,
      object_span-few h c.len.ensures.legal c.args.object place c.requires,
      c.len.ensures.few,
      c.requires,
    )

pub returns-then-index-objects : goal.returns-then-index-objects
returns-then-index-objects g c =
    sym (object_span-past c.args.self.now c.args.object 0 (c.args.place - 0) (omega arith) (omega (arith, c.requires)))

pub returns-else-place-len : goal.returns-else-place-len
returns-else-place-len g c =
    let h = c.args.self.now in
    let place = c.args.place in
    let row = place / updates_a_row in
    let same : row * updates_a_row ≡ updates_a_row * row = omega arith in
    omega (
      arith,
      c.mark.ensures,
      ap (object_span h c.args.object 0) same,
      on-between h c.len.ensures.legal c.args.object (row * updates_a_row) place c.moves_between.result.now (omega arith) c.requires
          c.moves_between.ensures.moves,
      c.total_on.ensures,
    )
