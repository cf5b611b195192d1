use Rattle.std.proofs.Common.{◌≡◌, length, take}
use Rattle.ordup_objects.specs.Tables.{names_of, initial_state}
use Rattle.ordup_objects.proofs.object_table.begin_at.Given as goal

-- the names stay, and the first objects begin at their values
abbrev pub invariant-loop-index : goal.invariant-loop-index
invariant-loop-index g l = record {
  count : length l.objects ≡ length l.fn.objects;
  names : names_of l.objects ≡ names_of l.fn.objects;
  values : take l.index (initial_state l.objects) ≡ take l.index l.values;
}
