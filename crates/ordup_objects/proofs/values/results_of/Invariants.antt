use Rattle.std.proofs.Common.{◌≡◌, take, map, true}
use Rattle.ordup_objects.specs.States.{result_at, is_legal}
use Rattle.ordup_objects.proofs.values.results_of.Given as goal

-- the changes so far are legal, and have their results
abbrev pub invariant-loop-i : goal.invariant-loop-i
invariant-loop-i l = record {
  legal : is_legal (take l.i l.changes) l.values ≡ true;
  results : take l.i l.results ≡ map (result_at l.values) (take l.i l.changes);
}
