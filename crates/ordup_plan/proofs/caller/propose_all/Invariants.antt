use Rattle.std.proofs.Common.{◌+◌, ◌≤◌, vec_len}
use Rattle.std.specs.Vec.Iter.{into_iter_len}
use Rattle.ordup_plan.specs.Counting.{counted}
use Rattle.ordup_plan.proofs.caller.propose_all.Given as goal

-- no more proposals are counted than sets were taken
abbrev pub invariant-loop-set : goal.invariant-loop-set
invariant-loop-set g l = counted l.tally + into_iter_len l.set-iterator ≤ vec_len l.fn.sets
