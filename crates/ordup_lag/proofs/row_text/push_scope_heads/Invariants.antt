use Rattle.std.proofs.Common.{◌≡◌, ◌++◌}
use Rattle.ordup_limits.specs.Entries.{latest}
use Rattle.ordup_lag.specs.Texts.{scope_heads}
use Rattle.ordup_lag.proofs.row_text.push_scope_heads.Given as goal

-- the names of the columns of the limits so far
abbrev pub invariant-loop-number : goal.invariant-loop-number
invariant-loop-number g l =
    l.out.text ≡ l.initial.out.text ++ scope_heads l.audited.objects l.audited.groups (latest l.audited.limits) l.number
