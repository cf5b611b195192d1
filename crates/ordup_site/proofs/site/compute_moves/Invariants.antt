use Rattle.std.proofs.Common.{◌≡◌, take}
use Rattle.ordup_objects.specs.Moves.{moves_of}
use Rattle.ordup_site.proofs.site.compute_moves.Given as goal

-- the moves so far are in place
abbrev pub invariant-loop-i : goal.invariant-loop-i
invariant-loop-i g l = take l.i l.moves ≡ moves_of l.values (take l.i l.changes)
