use Rattle.std.proofs.Common.{◌≡◌, map, take}
use Rattle.ordup_shapes.specs.Changes.{change_of}
use Rattle.ordup_shapes.proofs.change.add_changes.Given as goal

abbrev pub invariant-loop-index : goal.invariant-loop-index
invariant-loop-index l = l.changes.items ≡ map change_of (take l.index l.raws)
