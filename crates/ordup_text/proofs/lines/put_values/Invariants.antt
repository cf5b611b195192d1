use Rattle.std.proofs.Common.{◌≡◌, ◌+◌, ◌*◌, ◌≤◌, ◌++◌, drop}
use Rattle.ordup_text.specs.Lines.{values_text}
use Rattle.ordup_text.specs.declared.lines.TheConstants.{MOST_VALUE_BYTES}
use Rattle.ordup_text.proofs.lines.put_values.Given as goal

-- the values so far and those that are left are all of them, and each took its spare capacity
abbrev pub invariant-loop-index : goal.invariant-loop-index
invariant-loop-index g l =
    (l.out.text ++ values_text (drop l.index l.objects) (drop l.index l.values) ≡ l.initial.out.text ++ values_text l.objects l.values)
    × (l.initial.out.spare ≤ l.out.spare + l.index * MOST_VALUE_BYTES)
