use Rattle.std.proofs.Common.{◌≡◌, ◌++◌, drop, map}
use Rattle.ordup_succession.specs.DeclaringLines.{object_words}
use Rattle.ordup_succession.specs.Lines.{lines_text}
use Rattle.ordup_succession.proofs.forming.push_objects.Given as goal

-- the lines so far and those that are left are all of them
abbrev pub invariant-loop-index : goal.invariant-loop-index
invariant-loop-index g l =
    l.out.text ++ lines_text (map object_words (drop l.index l.objects))
    ≡ l.initial.out.text ++ lines_text (map object_words l.objects)
