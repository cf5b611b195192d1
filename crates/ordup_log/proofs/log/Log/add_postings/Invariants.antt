use Rattle.std.proofs.Common.{◌≡◌}
use Rattle.ordup_objects.specs.Weights.{object_weight, object_span}
use Rattle.ordup_log.specs.Postings.{postings_of}
use Rattle.ordup_log.proofs.log.Log.add_postings.Given as goal

-- the postings so far, and what the updates so far weigh
abbrev pub invariant-loop-index : goal.invariant-loop-index
invariant-loop-index g l = record {
  so_far : l.postings.items ≡ postings_of (object_weight l.self l.object) l.index;
  running : l.running ≡ object_span l.self l.object 0 l.index;
}
