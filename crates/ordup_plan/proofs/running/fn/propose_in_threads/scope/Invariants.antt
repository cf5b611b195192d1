use Rattle.std.proofs.Common.{◌≡◌, ◌+◌, sum_by, vec_len}
use Rattle.std.specs.Vec.Iter.{into_iter_items}
use Rattle.ordup_plan.proofs.running.fn.propose_in_threads.scope.Given as goal

-- what is promised of the callers so far, and the hands that are left, are all hands
abbrev pub invariant-loop-sets : goal.invariant-loop-sets
invariant-loop-sets g l =
    sum_by (λ c. c.promise.sets) l.callers.items + sum_by vec_len (into_iter_items l.sets-iterator)
    ≡ sum_by vec_len (into_iter_items l.initial.sets-iterator)
