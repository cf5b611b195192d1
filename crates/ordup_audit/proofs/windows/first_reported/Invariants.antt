use Rattle.ordup_audit.specs.Passing.{PassesBelow, is_window_unreported}
use Rattle.ordup_audit.proofs.windows.first_reported.Given as goal

-- the windows so far pass the test
abbrev pub invariant-loop-index : goal.invariant-loop-index
invariant-loop-index g l = PassesBelow (is_window_unreported l.audited) l.index
