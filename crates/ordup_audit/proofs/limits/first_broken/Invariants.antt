use Rattle.ordup_audit.specs.Cursors.{AreUpto}
use Rattle.ordup_audit.specs.Passing.{PassesBelow, is_place_within}
use Rattle.ordup_audit.proofs.CursorLemmas.{places_of}
use Rattle.ordup_audit.proofs.limits.first_broken.Given as goal

-- the places so far pass no limit; and how many of the reports and of the rounds are up to the last of them
abbrev pub invariant-loop-updates : goal.invariant-loop-updates
invariant-loop-updates g l = record {
  reports : AreUpto l.updates (places_of l.audited.reports) l.reports_passed;
  rounds : AreUpto l.updates l.audited.rounds l.rounds_passed;
  within : PassesBelow (is_place_within l.audited) l.updates;
}
