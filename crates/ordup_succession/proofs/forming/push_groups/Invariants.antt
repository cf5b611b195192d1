use Rattle.std.proofs.Common.{◌≡◌, ◌++◌, drop, map}
use Rattle.ordup_succession.specs.DeclaringLines.{group_words}
use Rattle.ordup_succession.specs.Lines.{lines_text}
use Rattle.ordup_succession.proofs.forming.push_groups.Given as goal

-- the lines so far and those that are left are all of them
abbrev pub invariant-loop-index : goal.invariant-loop-index
invariant-loop-index g l =
    l.out.text ++ lines_text (map (group_words l.objects) (drop l.index l.groups))
    ≡ l.initial.out.text ++ lines_text (map (group_words l.objects) l.groups)
