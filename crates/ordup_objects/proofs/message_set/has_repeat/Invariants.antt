use Rattle.std.proofs.Common.{◌≡◌, drop}
use Rattle.ordup_objects.specs.Repeats.{repeats}
use Rattle.ordup_objects.specs.Sets.{are_of_one_object}
use Rattle.ordup_objects.proofs.message_set.has_repeat.Given as goal

-- an object comes twice if one does from here on
abbrev pub invariant-loop-i : goal.invariant-loop-i
invariant-loop-i l = repeats are_of_one_object l.changes ≡ repeats are_of_one_object (drop l.i l.changes)
