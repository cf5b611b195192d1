use Rattle.std.proofs.Common.{◌≡◌, ◌+◌, length, drop}
use Rattle.std.specs.Prelude.{slice_index}
use Rattle.ordup_log.specs.declared.scope.Scope.{Scope}
use Rattle.ordup_log.specs.Spans.{span, IsScopeKnown}
use Rattle.ordup_limits.specs.Masks.{counts_on}
use Rattle.ordup_limits.specs.StoreLedgers.{scope_index}
use Rattle.ordup_limits.specs.Totals.{weight_of}
use Rattle.ordup_limits.proofs.weights.Weights.add_update.Given as goal

-- with what the moves that are left weigh, the totals are those of the place
abbrev pub invariant-loop-moved : goal.invariant-loop-moved
invariant-loop-moved g l = record {
  place : l.self.place ≡ l.fn.self.place + 1;
  left : (s : Scope) → IsScopeKnown (length l.log.start) l.groups s
      → slice_index l.self.totals (scope_index s) + weight_of (counts_on l.groups s) (drop l.moved-index l.moves)
      ≡ span l.log l.groups s 0 (l.fn.self.place + 1);
}
