-- The weight of an update comes from its moves, and the running weight is the span from the start of the log.
-- A span weighs so little that the sum cannot overflow.
use Rattle.std.proofs.Common.{arith, ◌≡◌, ◌+◌, ◌∙◌}
use Rattle.ordup_objects.specs.Weights.{object_weight, object_span}
use Rattle.ordup_log.proofs.MovingLemmas.{on-moves}
use Rattle.ordup_log.proofs.PostingLemmas.{running-more, postings-more}
use Rattle.ordup_log.proofs.WeightLemmas.{object_span-few}
use Rattle.ordup_log.proofs.log.Log.add_postings.Goals as goal

pub overflow_add-running : goal.overflow_add-running
overflow_add-running g c =
    let h = c.args.self.now in
    let x = c.args.object in
    let n = c.loop-index.index in
    omega (
      arith,
      c.loop-index.invariant.running,
      c.total_on-weight.ensures,
      on-moves h c.moves.ensures.legal x n c.moves.result.now (omega arith) c.moves.ensures.moves,
      running-more h x n,
      object_span-few h c.moves.ensures.legal x (n + 1) (omega arith),
      c.len-index-end.ensures.few,
    )

pub loop-index-preserved : goal.loop-index-preserved
loop-index-preserved g c =
    let h = c.args.self.now in
    let x = c.args.object in
    let n = c.loop-index.index in
    let weight : c.total_on-weight.result ≡ object_weight h x n =
    c.total_on-weight.ensures ∙ on-moves h c.moves.ensures.legal x n c.moves.result.now (omega arith) c.moves.ensures.moves in
    let running : c.loop-index.running + c.total_on-weight.result ≡ object_span h x 0 (n + 1) = omega (arith, c.loop-index.invariant.running, weight, running-more h x n) in
    record {
      so_far =
          postings-more h x n c.total_on-weight.result (c.loop-index.running + c.total_on-weight.result) c.loop-index.postings.items
          c.post.new.postings.items c.loop-index.invariant.so_far weight running c.in_ok-post.ensures.posted;
      running = running;
    }
