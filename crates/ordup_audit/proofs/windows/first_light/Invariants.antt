use Rattle.ordup_audit.specs.Passing.{PassesBelow, is_window_over}
use Rattle.ordup_audit.proofs.windows.first_light.Given as goal

-- the windows so far pass the test
abbrev pub invariant-loop-index : goal.invariant-loop-index
invariant-loop-index g l = PassesBelow (is_window_over l.audited) l.index
