use Rattle.std.proofs.Common.{arith, ◌<◌, length}
use Rattle.std.proofs.lemmas.Grind.{common_steps}
use Rattle.ordup_log.proofs.MovingLemmas.{travel-fits}
use Rattle.ordup_log.proofs.moved_weights.travel.Goals as goal

pub overflow_add-index_mut : goal.overflow_add-index_mut
overflow_add-index_mut g c =
    let x = c.index.result in
    let at : x < length c.loop-moved.travelled.items = grind (arith, common_steps) in
    let fits = travel-fits c.loop-moved.travelled.items c.args.moves.now c.loop-moved.moved-index x c.index_mut.result.now
    c.moved-item.result (omega arith) c.moved-item.is c.index.ensures (grind (arith, common_steps))
    (omega (arith, c.loop-moved.invariant.left x at, c.requires.few x (omega (arith, at, c.loop-moved.invariant.count)))) in
    omega (arith, fits, c.from.ensures)
