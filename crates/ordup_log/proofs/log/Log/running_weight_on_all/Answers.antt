-- The marks of a row sum to the weight on all objects, to which the moves behind the row add theirs.
use Rattle.std.proofs.Common.{arith, ◌≡◌, ◌/◌, ◌*◌, [], ap}
use Rattle.ordup_log.specs.Rows.{updates_a_row}
use Rattle.ordup_log.specs.Spans.{span}
use Rattle.ordup_log.specs.declared.scope.Scope.TheVariants.{All as Everything}
use Rattle.ordup_log.proofs.MovingLemmas.{all-between}
use Rattle.ordup_log.proofs.RowLemmas.{sum-row}
use Rattle.ordup_log.proofs.WeightLemmas.{all_span-few}
use Rattle.ordup_log.proofs.log.Log.running_weight_on_all.Goals as goal

pub total-requires : goal.total-requires
total-requires g c =
    let h = c.args.self.now in
    let row = c.args.place / updates_a_row in
    omega (
      arith,
      sum-row h row c.row.result.now c.row.ensures.count c.row.ensures.marks,
      all_span-few h c.keeps.ensures.legal (updates_a_row * row) (omega (arith, c.requires)),
      c.keeps.ensures.few,
      c.requires,
    )

pub overflow_add-result : goal.overflow_add-result
overflow_add-result g c =
    let h = c.args.self.now in
    let place = c.args.place in
    let row = place / updates_a_row in
    let same : row * updates_a_row ≡ updates_a_row * row = omega arith in
    omega (
      arith,
      c.total.ensures,
      sum-row h row c.row.result.now c.row.ensures.count c.row.ensures.marks,
      ap (span h [] Everything 0) same,
      all-between h c.moves_between.ensures.legal (row * updates_a_row) place c.moves_between.result.now (omega arith) c.requires
          c.moves_between.ensures.moves,
      c.total_on_all.ensures,
      all_span-few h c.moves_between.ensures.legal place c.requires,
      c.keeps.ensures.few,
      c.requires,
    )

pub returns : goal.returns
returns g c =
    let h = c.args.self.now in
    let place = c.args.place in
    let row = place / updates_a_row in
    let same : row * updates_a_row ≡ updates_a_row * row = omega arith in
    omega (
      arith,
      c.total.ensures,
      sum-row h row c.row.result.now c.row.ensures.count c.row.ensures.marks,
      ap (span h [] Everything 0) same,
      all-between h c.moves_between.ensures.legal (row * updates_a_row) place c.moves_between.result.now (omega arith) c.requires
          c.moves_between.ensures.moves,
      c.total_on_all.ensures,
    )
