-- The count so far is the sum of the lengths of the sets so far. Sets and records are too short for it to overflow.
use Rattle.ordup_audit.proofs.Common.{◌+◌, ◌-◌, ◌<◌, ◌∙◌, ◌≡◌, [], ap, arith, Change, get_or, length, List}
use Rattle.std.proofs.lemmas.List.Sums.{sum_by_more}
use Rattle.ordup_audit.proofs.rows.change_count.Goals as goal

pub set-requires : goal.set-requires
set-requires g c = record { first = omega arith; last = omega arith }

pub overflow_add-count : goal.overflow_add-count
overflow_add-count g c =
    omega (arith, c.changes.ensures.set.few, ap length c.changes.ensures.changes, c.keeps.ensures.few)

pub loop-index-preserved : goal.loop-index-preserved
loop-index-preserved g c =
    let sets = c.args.audited.now.sets in
    let i = c.loop-index.index in
    let there : i < length sets = omega arith in
    let at : (i + 1) - 1 ≡ i = omega arith in
    let same = c.changes.ensures.changes ∙ c.set.ensures ∙ ap (λ k. get_or sets k []) at in
    let more = sum_by_more (λ (m : List Change). length m) sets i [] there in
    record {
      so_far = omega (arith, c.loop-index.invariant.so_far, more, ap length same);
      few = omega (arith, c.loop-index.invariant.few, c.changes.ensures.set.few, ap length c.changes.ensures.changes);
    }

pub returns : goal.returns
returns g c =
    let all : c.loop-index.index ≡ c.args.updates = omega arith in
    record {
      changes = rw all at c.loop-index.invariant.so_far;
      few = omega (arith, c.loop-index.invariant.few, c.keeps.ensures.few);
    }
