use Rattle.std.proofs.Common.{◌≡◌, ◌++◌, drop}
use Rattle.ordup_succession.specs.DeclaringLines.{limit_lines}
use Rattle.ordup_succession.specs.Lines.{lines_text}
use Rattle.ordup_succession.proofs.forming.push_limits.Given as goal

-- the lines so far and those that are left are all of them
abbrev pub invariant-loop-index : goal.invariant-loop-index
invariant-loop-index g l =
    l.out.text ++ lines_text (limit_lines l.setup.objects l.setup.groups (drop l.index l.setup.sites) (drop l.index l.setup.limits))
    ≡ l.initial.out.text ++ lines_text (limit_lines l.setup.objects l.setup.groups l.setup.sites l.setup.limits)
