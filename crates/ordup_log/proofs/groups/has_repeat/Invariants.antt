use Rattle.std.proofs.Common.{◌≡◌, drop, nat_eq}
use Rattle.ordup_objects.specs.Repeats.{repeats}
use Rattle.ordup_log.proofs.groups.has_repeat.Given as goal

-- a member comes twice if one does from here on
abbrev pub invariant-loop-i : goal.invariant-loop-i
invariant-loop-i l = repeats nat_eq l.members ≡ repeats nat_eq (drop l.i l.members)
