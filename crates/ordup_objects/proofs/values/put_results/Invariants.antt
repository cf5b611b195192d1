use Rattle.std.proofs.Common.{◌≡◌, take}
use Rattle.std.specs.List.{fold}
use Rattle.std.proofs.Math.ListN.{set}
use Rattle.ordup_objects.specs.States.{result_at}
use Rattle.ordup_objects.proofs.values.put_results.Given as goal

-- the results so far are in place
abbrev pub invariant-loop-i : goal.invariant-loop-i
invariant-loop-i l = l.values ≡ fold (λ w c. set w c.object (result_at l.initial.values c)) l.initial.values (take l.i l.changes)
