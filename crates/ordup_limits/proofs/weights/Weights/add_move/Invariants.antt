use Rattle.std.proofs.Common.{◌≡◌, ◌≤◌, ◌<◌, ◌+◌, ℕ, length}
use Rattle.std.specs.Prelude.{slice_index}
use Rattle.std.specs.Int.{bit_at}
use Rattle.ordup_log.specs.declared.scope.Scope.{Scope}
use Rattle.ordup_log.specs.Spans.{IsScopeKnown}
use Rattle.ordup_limits.specs.Masks.{counts_on}
use Rattle.ordup_limits.specs.StoreLedgers.{scope_index}
use Rattle.ordup_limits.specs.Totals.{share}
use Rattle.ordup_limits.proofs.GroupBitLemmas.{has_left}
use Rattle.ordup_limits.proofs.weights.Weights.add_move.Given as goal

-- with the weight on the groups whose bits are left, the totals have the weight on all scopes on which the object counts
abbrev pub invariant-loop-rest : goal.invariant-loop-rest
invariant-loop-rest g l = record {
  place : l.self.place ≡ l.fn.self.place;
  left : (s : Scope) → IsScopeKnown (length l.log.start) l.groups s
      → slice_index l.self.totals (scope_index s) + share (has_left l.rest s) l.weight
      ≡ slice_index l.fn.self.totals (scope_index s) + share (counts_on l.groups s l.moved.object) l.weight;
  bits : (i : ℕ) → i < 64 → bit_at l.rest i ≤ bit_at (slice_index l.masks l.moved.object) i;
}

abbrev pub decreases-loop-rest : goal.decreases-loop-rest
decreases-loop-rest g l = l.rest
