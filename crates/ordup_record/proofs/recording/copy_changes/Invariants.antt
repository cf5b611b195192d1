use Rattle.std.proofs.Common.{◌≡◌, ◌≤◌, length, take}
use Rattle.std.specs.Vec.{vec_capacity}
use Rattle.ordup_audit.specs.RecordViews.{changes_in}
use Rattle.ordup_record.proofs.recording.copy_changes.Given as goal

-- the changes so far, with spare capacity for all of them
abbrev pub invariant-loop-i : goal.invariant-loop-i
invariant-loop-i g l = record {
  changes : l.changes.items ≡ take l.i (changes_in l.lent);
  spare : length (changes_in l.lent) ≤ vec_capacity l.changes;
}
