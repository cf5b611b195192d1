use Rattle.std.proofs.Common.{◌≡◌, ◌<◌, ◌+◌, ◌-◌, ◌==◌, ℕ, length, drop}
use Rattle.std.specs.Prelude.{slice_index}
use Rattle.ordup_objects.specs.Weights.{object_span}
use Rattle.ordup_limits.specs.Totals.{weight_of}
use Rattle.ordup_limits.proofs.marks.take_off.Given as goal

-- with what the moves that are left weigh, the marks of the place before
abbrev pub invariant-loop-moved : goal.invariant-loop-moved
invariant-loop-moved g l = record {
  count : length l.marks.items ≡ length l.log.start;
  left : (x : ℕ) → x < length l.log.start
      → slice_index l.marks.items x
      ≡ object_span l.log x 0 (l.place - 1) + weight_of (λ z. x == z) (drop l.moved-index l.moves);
}
