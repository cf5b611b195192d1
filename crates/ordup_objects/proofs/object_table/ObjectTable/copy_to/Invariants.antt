use Rattle.std.proofs.Common.{◌≡◌, take}
use Rattle.ordup_objects.proofs.object_table.ObjectTable.copy_to.Given as goal

-- the objects so far
abbrev pub invariant-loop-index : goal.invariant-loop-index
invariant-loop-index g l = l.objects ≡ take l.index l.self-inside.objects
