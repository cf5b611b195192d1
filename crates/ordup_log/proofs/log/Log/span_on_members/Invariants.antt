use Rattle.std.proofs.Common.{◌≡◌, ◌≤◌, ◌*◌, take, sum_by}
use Rattle.ordup_objects.specs.Sizes.{most_updates, greatest_distance}
use Rattle.ordup_objects.specs.Weights.{object_span}
use Rattle.ordup_log.proofs.log.Log.span_on_members.Given as goal

-- the sum so far, which fits
abbrev pub invariant-loop-member : goal.invariant-loop-member
invariant-loop-member g l = record {
  so_far : l.total ≡ sum_by (λ x. object_span l.self x l.from l.to) (take l.member-index l.members);
  few : l.total ≤ most_updates * greatest_distance * l.member-index;
}
