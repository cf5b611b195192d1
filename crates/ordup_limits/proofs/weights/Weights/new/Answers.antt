use Rattle.std.proofs.Common.{arith, ap, ◌∙◌, ℕ, length}
use Rattle.std.proofs.lemmas.List.{length-replicate}
use Rattle.ordup_limits.specs.StoreLedgers.{most_scopes, scope_index}
use Rattle.ordup_limits.proofs.TotalLemmas.{none_at}
use Rattle.ordup_limits.proofs.weights.Weights.new.Goals as goal

pub invariant_of-result : goal.invariant_of-result
invariant_of-result g c = ap length c.in_ok-for_each_scope.ensures.numbers ∙ length-replicate {A = ℕ} most_scopes 0

pub returns-clause-weights : goal.returns-clause-weights
returns-clause-weights g c = λ h groups. record {
  last = omega arith;
  each = λ s known. rw c.in_ok-for_each_scope.ensures.numbers (none_at most_scopes (scope_index s));
}
