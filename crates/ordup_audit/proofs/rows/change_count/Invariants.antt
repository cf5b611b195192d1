use Rattle.std.proofs.Common.{◌≡◌, ◌*◌, ◌≤◌, length, take, sum_by}
use Rattle.ordup_objects.specs.Sizes.{most_changes}
use Rattle.ordup_audit.proofs.rows.change_count.Given as goal

-- the changes of the updates so far
abbrev pub invariant-loop-index : goal.invariant-loop-index
invariant-loop-index g l = record {
  so_far : l.count ≡ sum_by (λ m. length m) (take l.index l.audited.sets);
  few : l.count ≤ most_changes * l.index;
}
