use Rattle.std.proofs.Common.{arith}
use Rattle.ordup_limits.specs.Sizes.{most_limits}
use Rattle.ordup_limits.proofs.PassedLemmas.{ArePassed-none}
use Rattle.ordup_limits.proofs.TotalLemmas.{none_at, AreTotals-start}
use Rattle.ordup_limits.proofs.lag_weights.LagWeights.new.Goals as goal

pub add_amounts-requires : goal.add_amounts-requires
add_amounts-requires g c = λ i. rw c.in_ok-allowed.ensures.totals (omega (arith, none_at most_limits i))

pub invariant_of-result : goal.invariant_of-result
invariant_of-result g c = record {
  passed = ArePassed-none c.in_ok-added.added c.add_amounts.new.self (λ i. rw c.in_ok-added.ensures.totals (none_at most_limits i));
  fits = omega arith;
}

pub returns-clause-weights : goal.returns-clause-weights
returns-clause-weights g c = λ h groups. record {
  added = rw c.in_ok-added.ensures.totals (AreTotals-start h groups c.args.limits.now);
  allowed = c.add_amounts.ensures h groups 0 (rw c.in_ok-allowed.ensures.totals (AreTotals-start h groups c.args.limits.now));
}
