use Rattle.std.proofs.Common.{◌≡◌, ◌++◌, length}
use Rattle.ordup_answers.specs.Names.{indices_among}
use Rattle.ordup_answers.proofs.names.find_objects.Given as goal

abbrev pub invariant-loop-name : goal.invariant-loop-name
invariant-loop-name g l = l.found.items ++ indices_among l.objects l.rest ≡ indices_among l.objects l.names

abbrev pub decreases-loop-name : goal.decreases-loop-name
decreases-loop-name g l = length l.rest
