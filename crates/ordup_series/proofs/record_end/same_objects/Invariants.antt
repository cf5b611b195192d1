use Rattle.std.specs.Prelude.{◌≡◌, take}
use Rattle.ordup_objects.specs.Tables.{Objects}
use Rattle.ordup_series.proofs.record_end.same_objects.Given as goal

-- they are the same so far
abbrev pub invariant-loop-index : goal.invariant-loop-index
invariant-loop-index g l =
    let mine : Objects = l.fn.mine in
    let others : Objects = l.fn.others in
    take l.index mine ≡ take l.index others
