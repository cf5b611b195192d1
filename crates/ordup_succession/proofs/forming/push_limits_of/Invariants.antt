use Rattle.std.proofs.Common.{◌≡◌, ◌++◌, drop, map}
use Rattle.ordup_limits.specs.Entries.{latest}
use Rattle.ordup_succession.specs.DeclaringLines.{limit_words}
use Rattle.ordup_succession.specs.Lines.{lines_text}
use Rattle.ordup_succession.proofs.forming.push_limits_of.Given as goal

-- the lines so far and those that are left are all of them
abbrev pub invariant-loop-index : goal.invariant-loop-index
invariant-loop-index g l =
    l.out.text ++ lines_text (map (limit_words l.objects l.groups l.site) (drop l.index (latest l.limits)))
    ≡ l.initial.out.text ++ lines_text (map (limit_words l.objects l.groups l.site) (latest l.limits))
