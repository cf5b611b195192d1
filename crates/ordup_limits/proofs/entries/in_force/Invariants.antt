use Rattle.std.proofs.Common.{◌≡◌, take}
use Rattle.ordup_limits.specs.Entries.{latest, HoldFrom}
use Rattle.ordup_limits.proofs.entries.in_force.Given as goal

-- the entries so far hold from the place or before, and the last of each scope are the limits so far
abbrev pub invariant-loop-entry : goal.invariant-loop-entry
invariant-loop-entry l = record {
  hold : HoldFrom l.place (take l.entry-index l.entries);
  limits : l.limits ≡ latest (take l.entry-index l.entries);
}
