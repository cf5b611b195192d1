use Rattle.std.proofs.Common.{◌≡◌, ◌+◌, ◌<◌, ℕ, length, drop, sum_by}
use Rattle.ordup_objects.specs.Marks.{mark_at}
use Rattle.ordup_log.specs.Moving.{distance_on}
use Rattle.ordup_log.proofs.moved_weights.travel.Given as goal

-- what is left goes on from where the objects so far travelled
abbrev pub invariant-loop-moved : goal.invariant-loop-moved
invariant-loop-moved g l = record {
  count : length l.travelled.items ≡ length l.fn.travelled.items;
  left : (x : ℕ) → x < length l.travelled.items →
      mark_at l.travelled.items x + sum_by (distance_on x) (drop l.moved-index l.moves)
      ≡ mark_at l.fn.travelled.items x + sum_by (distance_on x) l.moves;
}
