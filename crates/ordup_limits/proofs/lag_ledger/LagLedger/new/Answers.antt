-- Both places are 0, so the weights are those of any log and any groups.
-- No call has seen the groups yet, so the masks need no more than to be without bits.
use Rattle.std.proofs.Common.{arith, length, ◌∙◌}
use Rattle.std.proofs.lemmas.Bool.{false≢true}
use Rattle.ordup_objects.specs.Sizes.{most_objects}
use Rattle.ordup_limits.proofs.EntryLemmas.{latest-known}
use Rattle.ordup_limits.proofs.TotalLemmas.{none_at}
use Rattle.ordup_limits.proofs.lag_ledger.LagLedger.new.Goals as goal

pub invariant_of-result : goal.invariant_of-result
invariant_of-result g c = record {
  ledger = record {
    few = c.least_count-count.ensures.few;
    last = omega (arith, c.in_ok-weights.ensures.places.1);
    empty = λ e x. rw c.in_ok-masks.ensures.masks (none_at most_objects x);
  };
  count = c.least_count-count.ensures.least;
}

pub returns-clause-limits : goal.returns-clause-limits
returns-clause-limits g c = c.copy-limits.ensures ∙ c.latest.ensures

pub returns-clause-stands : goal.returns-clause-stands
returns-clause-stands g c = λ h groups few known.
    (let same = c.copy-limits.ensures ∙ c.latest.ensures in
    let places = c.in_ok-weights.ensures.places in
    let are = c.in_ok-weights.ensures.weights h groups in
    record {
      objects = few;
      known = rw same (latest-known (length h.start) groups c.args.limits.now known);
      reported = omega (arith, places.0);
      extended = omega (arith, places.1);
      allowed = are.allowed;
      added = are.added;
      masks = λ e. absurd (false≢true e);
    })
