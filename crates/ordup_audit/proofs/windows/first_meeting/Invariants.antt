use Rattle.std.proofs.Common.{◌≡◌}
use Rattle.ordup_audit.specs.Passing.{PassesBelow, is_window_apart, end_before}
use Rattle.ordup_audit.proofs.windows.first_meeting.Given as goal

-- the windows so far do not meet, and where the last of them ends
abbrev pub invariant-loop-index : goal.invariant-loop-index
invariant-loop-index g l = record { apart : PassesBelow (is_window_apart l.audited) l.index; end : l.end ≡ end_before l.audited l.index }
