use Rattle.std.proofs.Common.{◌≡◌, ◌+◌, ◌≤◌, sum_by}
use Rattle.std.specs.Prelude.{option_map}
use Rattle.std.specs.Vec.Iter.{into_iter_items}
use Rattle.ordup_plan.specs.Counting.{count_of, counted, plus, total}
use Rattle.ordup_plan.proofs.tally.added_up.Given as goal

-- the sum so far with the tallies that are left is the sum of all
abbrev pub invariant-loop-tally : goal.invariant-loop-tally
invariant-loop-tally l = record {
  sum : option_map (plus l.sum) (total (into_iter_items l.tally-iterator)) ≡ total l.fn.tallies.items;
  few : counted l.sum + sum_by count_of (into_iter_items l.tally-iterator) ≤ sum_by count_of l.fn.tallies.items;
}
