use Rattle.std.proofs.Common.{◌≡◌, ◌≤◌, ◌*◌, ◌^◌, take, sum_by}
use Rattle.ordup_log.specs.Moving.{distance_of}
use Rattle.ordup_log.proofs.moved_weights.total_on_all.Given as goal

-- the sum so far, which fits
abbrev pub invariant-loop-moved : goal.invariant-loop-moved
invariant-loop-moved l = record {
  so_far : l.total ≡ sum_by distance_of (take l.moved-index l.moves);
  few : l.total ≤ 2 ^ 32 * l.moved-index;
}
